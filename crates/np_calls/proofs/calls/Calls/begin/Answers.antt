use Rattle.std.proofs.Common.{◌≡◌, ◌+◌, List, [], ◌∷◌, ◌++◌, take, slice_set, refl, subst, sym, ap, arith}
use Rattle.std.proofs.lemmas.List.{take_more_set}
use Rattle.np_message.specs.declared.depth.Depth.{Depth}
use Rattle.np_calls.specs.Calls.{Outstanding, AreOutstanding, MayBegin}
use Rattle.np_calls.proofs.Depths.{begun, room-at}
use Rattle.np_calls.proofs.calls.Calls.begin.Goals as goal

pub bounds-self-inside-self-inside : goal.bounds-self-inside-self-inside
bounds-self-inside-self-inside c = room-at c.self.inside.count c.self.inside.depths _ c.args.depth (sym (ap (λ (o : Outstanding). o.calls) c.self.view_is)) (omega arith) c.self.invariant.1 c.requires.may

pub invariant_of-self : goal.invariant_of-self
invariant_of-self c =
    let calls : c.args.self.now.calls ≡ take c.self.inside.count c.self.inside.depths = sym (ap (λ (o : Outstanding). o.calls) c.self.view_is) in
    let may = subst (λ (l : List Depth). MayBegin l c.args.depth) calls c.requires.may in
    let n = room-at c.self.inside.count c.self.inside.depths _ c.args.depth calls (omega arith) c.self.invariant.1 c.requires.may in
    let more : take (c.self.inside.count + 1) (slice_set c.self.inside.depths c.self.inside.count c.args.depth) ≡ take c.self.inside.count c.self.inside.depths ++ c.args.depth ∷ [] = take_more_set c.self.inside.depths c.self.inside.count c.args.depth (omega (arith, n)) in
    (omega (arith, n), subst (λ (l : List Depth). AreOutstanding l) (sym more) (begun _ c.args.depth c.self.invariant.1 may))

pub returns : goal.returns
returns c =
    let calls : c.args.self.now.calls ≡ take c.self.inside.count c.self.inside.depths = sym (ap (λ (o : Outstanding). o.calls) c.self.view_is) in
    let side : c.args.self.now.side ≡ c.self.inside.side = sym (ap (λ (o : Outstanding). o.side) c.self.view_is) in
    let n = room-at c.self.inside.count c.self.inside.depths _ c.args.depth calls (omega arith) c.self.invariant.1 c.requires.may in
    let more : take (c.self.inside.count + 1) (slice_set c.self.inside.depths c.self.inside.count c.args.depth) ≡ take c.self.inside.count c.self.inside.depths ++ c.args.depth ∷ [] = take_more_set c.self.inside.depths c.self.inside.count c.args.depth (omega (arith, n)) in
    record { value = rw (calls, side, more) refl }
