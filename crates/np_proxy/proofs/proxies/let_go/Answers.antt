use Rattle.std.proofs.Common.{arith, sym, ap, ◌∙◌, refl}
use Rattle.np_proxy.specs.Imports.{import_name, held_once_less, holders_at, received_at}
use Rattle.np_proxy.proofs.Finding.{edit-view, edit-rising, hit-seen, gone-view, rising-remove}
use Rattle.np_proxy.proofs.proxies.let_go.Goals as goal

pub returns-then-index-gt1-clause-value : goal.returns-then-index-gt1-clause-value
returns-then-index-gt1-clause-value c =
    let seen = hit-seen import_name c.args.name c.args.proxies.now.items c.as_slice.result.now _ c.in-Some.place c.index.result.now refl c.requires.rising c.as_slice.ensures.value c.in-Some.ensures.found c.index.ensures in
    let holders = ap holders_at seen in
    (omega (arith, holders, c.if-index-gt1.true), edit-view import_name c.args.name held_once_less c.args.proxies.now.items c.as_slice.result.now _ c.in-Some.place c.index_mut-proxy.result.now _ refl c.requires.rising c.as_slice.ensures.value c.in-Some.ensures.found c.index_mut-proxy.ensures.value refl)

pub returns-then-index-gt1-clause-rising : goal.returns-then-index-gt1-clause-rising
returns-then-index-gt1-clause-rising c =
    edit-rising import_name c.args.name c.args.proxies.now.items c.as_slice.result.now c.in-Some.place c.index_mut-proxy.result.now _ c.requires.rising c.as_slice.ensures.value c.in-Some.ensures.found c.index_mut-proxy.ensures.value refl

pub returns-else-index-gt1-clause-value : goal.returns-else-index-gt1-clause-value
returns-else-index-gt1-clause-value c =
    let seen = hit-seen import_name c.args.name c.args.proxies.now.items c.as_slice.result.now _ c.in-Some.place c.remove-proxy.result refl c.requires.rising c.as_slice.ensures.value c.in-Some.ensures.found c.remove-proxy.ensures.value in
    let first = hit-seen import_name c.args.name c.args.proxies.now.items c.as_slice.result.now _ c.in-Some.place c.index.result.now refl c.requires.rising c.as_slice.ensures.value c.in-Some.ensures.found c.index.ensures in
    let holders = ap holders_at first in
    (omega (arith, holders, c.if-index-gt1.false), sym (ap received_at seen), c.remove-proxy.ensures.items ∙ gone-view import_name c.args.name c.args.proxies.now.items c.as_slice.result.now _ c.in-Some.place refl c.requires.rising c.as_slice.ensures.value c.in-Some.ensures.found c.remove-proxy.result)

pub returns-else-index-gt1-clause-rising : goal.returns-else-index-gt1-clause-rising
returns-else-index-gt1-clause-rising c = rw c.remove-proxy.ensures.items (rising-remove import_name c.args.proxies.now.items c.in-Some.place c.requires.rising)
