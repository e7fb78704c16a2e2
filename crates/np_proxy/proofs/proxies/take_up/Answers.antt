use Rattle.std.proofs.Common.{arith, sym, ap, ◌∙◌, refl}
use Rattle.np_proxy.specs.Imports.{import_name, came_again, holders_at, received_at}
use Rattle.np_proxy.proofs.Finding.{edit-view, edit-rising, hit-seen, hit-there-is}
use Rattle.np_proxy.proofs.ImportLemmas.{taken-again}
use Rattle.np_proxy.proofs.proxies.take_up.Goals as goal

pub overflow_add-proxy : goal.overflow_add-proxy
overflow_add-proxy c =
    let seen = hit-seen import_name c.args.name c.args.proxies.now.items c.as_slice.result.now _ c.in-Some.place c.index_mut-proxy.result.now refl c.requires.rising c.as_slice.ensures.value c.in-Some.ensures.found c.index_mut-proxy.ensures.value in
    let received = ap received_at seen in
    omega (arith, received, c.requires.received (sym c.is_purged.ensures.value ∙ c.if-is_purged.false))

pub overflow_add-proxy-in-Some : goal.overflow_add-proxy-in-Some
overflow_add-proxy-in-Some c =
    let seen = hit-seen import_name c.args.name c.args.proxies.now.items c.as_slice.result.now _ c.in-Some.place c.index_mut-proxy.result.now refl c.requires.rising c.as_slice.ensures.value c.in-Some.ensures.found c.index_mut-proxy.ensures.value in
    let holders = ap holders_at seen in
    omega (arith, holders, c.requires.holders)

pub returns-in-Some-clause-value : goal.returns-in-Some-clause-value
returns-in-Some-clause-value c =
    let there = hit-there-is import_name c.index_mut-proxy.result.now c.args.name c.args.proxies.now.items c.as_slice.result.now c.args.proxies.now.items c.in-Some.place refl c.requires.rising c.as_slice.ensures.value c.in-Some.ensures.found in
    edit-view import_name c.args.name came_again c.args.proxies.now.items c.as_slice.result.now _ c.in-Some.place c.index_mut-proxy.result.now _ refl c.requires.rising c.as_slice.ensures.value c.in-Some.ensures.found c.index_mut-proxy.ensures.value refl
    ∙ sym (taken-again c.args.purged.now c.args.name c.args.proxies.now.items (sym c.is_purged.ensures.value ∙ c.if-is_purged.false) there)

pub returns-in-Some-clause-rising : goal.returns-in-Some-clause-rising
returns-in-Some-clause-rising c =
    edit-rising import_name c.args.name c.args.proxies.now.items c.as_slice.result.now c.in-Some.place c.index_mut-proxy.result.now _ c.requires.rising c.as_slice.ensures.value c.in-Some.ensures.found c.index_mut-proxy.ensures.value refl
