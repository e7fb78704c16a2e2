-- The message that a side examines next names only what is out.
use Rattle.std.proofs.Common.{◌≡◌, ℕ, ◌+◌, ◌<◌, ◌≤◌, ◌∷◌, Bool, true, false, sym, ap, ◌∙◌, subst, arith, Some}
use Rattle.np_values.specs.declared.name.Name.{Name}
use Rattle.np_values.specs.Name.{is_same_side}
use Rattle.np_message.specs.Message.{Message}
use Rattle.np_machine.specs.References.{other_side, references_to, released_count, references_in, carried_in, released_in}
use Rattle.np_machine.specs.Side.{SideState, is_dead}
use Rattle.np_machine.specs.Turn.{unexamined, next_message}
use Rattle.np_machine.specs.Honest.{IsHonest}
use Rattle.np_machine.specs.Sound.{Balances}
use Rattle.np_machine.proofs.Examining.{first-is}
use Rattle.np_machine.proofs.Backing.{AllBacked, backed-rest}
use Rattle.np_machine.proofs.RemoteTests.{BothSound, is_other, other_side-other_side, sent-carried_in, sent-released_in, unexamined-is}

balances-le : (d : Bool) (h w k r f : ℕ) → Balances d h w k r f → f ≤ r
balances-le false h w k r f t = omega (arith, t.within)
balances-le true h w k r f t = t.within

-- what holds of the message m that p examines next, for its own object x
pub record IsKnown {C : Type 0} (p : SideState C) (m : Message) (x : Name) : Type 0 where
  -- where the message refers to x, x is out
  pub out : 0 < references_to x (references_in p.side m.body) → released_in x p.delivered < carried_in (other_side p.side) x p.sent
  -- its releases and those of the messages that wait don't pass the count
  pub few : released_in x p.delivered + released_in x p.undelivered + released_count x m.releases ≤ carried_in (other_side p.side) x p.sent

known : {C D : Type 0} (p : SideState C) (q : SideState D) (m : Message) (x : Name) → BothSound p q → is_same_side x.side p.side ≡ true → next_message q.sent p ≡ Some m → IsKnown p m x
known p q m x b o e =
    let o' = is_other p.side q.side x.side b.apart o in
    let home : other_side q.side ≡ p.side = other_side-other_side p.side q.side b.apart in
    let f = first-is (unexamined q p) m e in
    let back = b.backed' x o' in
    let all : AllBacked p.side x 0 (carried_in q.side x q.delivered) q.sent = subst (λ s. AllBacked s x 0 (carried_in q.side x q.delivered) q.sent) home back.all in
    let r : AllBacked p.side x (0 + released_in x p.examined) (carried_in q.side x q.delivered) (unexamined q p) = subst (λ l. AllBacked p.side x (0 + released_in x p.examined) (carried_in q.side x q.delivered) l) (sym (unexamined-is q p b.behind)) (backed-rest p.side x 0 (carried_in q.side x q.delivered) p.examined b.behind.rest (subst (λ l. AllBacked p.side x 0 (carried_in q.side x q.delivered) l) (sym b.behind.is) all)) in
    let r' : AllBacked p.side x (0 + released_in x p.examined) (carried_in q.side x q.delivered) (m ∷ f.0) = subst (λ l. AllBacked p.side x (0 + released_in x p.examined) (carried_in q.side x q.delivered) l) f.1 r in
    let s : carried_in (other_side p.side) x p.sent ≡ carried_in q.side x q.delivered + carried_in q.side x q.undelivered + carried_in q.side x (unexamined p q) = ap (λ z. carried_in z x p.sent) b.apart ∙ sent-carried_in p q x b.behind' b.accounts' in
    let g = sent-released_in q p x b.behind b.accounts in
    let n : released_in x (unexamined q p) ≡ released_count x m.releases + released_in x f.0 = ap (λ l. released_in x l) f.1 in
    let d = (b.accounts x).released_sum in
    let within = balances-le (is_dead q x.instance) _ _ _ _ _ (b.sound'.balances x o') in
    record {
      out = λ z. let a = r'.0 z in omega (arith, a, s, d);
      few = omega (arith, s, g, n, within);
    }

pub honest : {C D : Type 0} (p : SideState C) (q : SideState D) (m : Message) → BothSound p q → next_message q.sent p ≡ Some m → IsHonest p m
honest p q m b e = record {
  out = λ x o z. let k = known p q m x b o e in let l = k.out z in omega (arith, l);
  few = λ x o. let k = known p q m x b o e in omega (arith, k.few);
  few_waiting = λ x o. let k = known p q m x b o e in omega (arith, k.few);
}
