-- Both tests of what is remotely referenced agree.
use Rattle.std.proofs.Common.{◌≡◌, ℕ, ◌+◌, ◌<◌, List, ◌++◌, length, Bool, true, false, ◌&&◌, refl, sym, ap, ◌∙◌, subst, arith, drop}
use Rattle.std.specs.Prelude.{not, nat_lt}
use Rattle.std.proofs.lemmas.Bool.Decides.{nat_tests}
use Rattle.std.proofs.Math.Seq.{drop-append_seam}
use Rattle.np_values.specs.declared.name.Side.{Side}
use Rattle.np_values.specs.declared.name.Side.TheVariants.{Page, Plug}
use Rattle.np_values.specs.declared.name.Name.{Name}
use Rattle.np_values.specs.Name.{is_same_side}
use Rattle.np_message.specs.Message.{Message}
use Rattle.np_machine.specs.References.{other_side, references_to, count_in_names, released_count, carried_in, released_in}
use Rattle.np_machine.specs.Side.{SideState, local_count, is_dead}
use Rattle.np_machine.specs.Turn.{unexamined, is_remote_by_places, is_remote_by_messages}
use Rattle.np_machine.specs.Sound.{Balances, IsSound}
use Rattle.np_machine.proofs.Counting.{carried_in-append, released_in-append}
use Rattle.np_machine.proofs.Backing.{AllBacked, IsBacked, backed-any, backed-rest}
use Rattle.np_machine.proofs.Accounts.{HasAccounts}

-- the side examined a beginning of these messages
pub record ExaminedFirst {C : Type 0} (got : List Message) (q : SideState C) : Type 0 where
  pub rest : List Message
  pub is : q.examined ++ rest ≡ got

-- What holds of two sides at each state of a run.
pub record BothSound {C D : Type 0} (p : SideState C) (q : SideState D) : Type 0 where
  pub sound : IsSound p
  pub backed : IsBacked p
  pub accounts : HasAccounts p
  pub behind : ExaminedFirst q.sent p
  pub sound' : IsSound q
  pub backed' : IsBacked q
  pub accounts' : HasAccounts q
  pub behind' : ExaminedFirst p.sent q
  pub apart : other_side p.side ≡ q.side

pub other_side-other_side : (a b : Side) → other_side a ≡ b → other_side b ≡ a
other_side-other_side Page b e = ap other_side (sym e)
other_side-other_side Plug b e = ap other_side (sym e)

pub flip : {C D : Type 0} (p : SideState C) (q : SideState D) → BothSound p q → BothSound q p
flip p q b = record {
  sound = b.sound';
  backed = b.backed';
  accounts = b.accounts';
  behind = b.behind';
  sound' = b.sound;
  backed' = b.backed;
  accounts' = b.accounts;
  behind' = b.behind;
  apart = other_side-other_side p.side q.side b.apart;
}

pub unexamined-is : {C D : Type 0} (p : SideState C) (q : SideState D) (b : ExaminedFirst p.sent q) → unexamined p q ≡ b.rest
unexamined-is p q b = ap (λ l. drop (length q.examined) l) (sym b.is) ∙ drop-append_seam q.examined b.rest

-- what one side sent was delivered, waits, or wasn't examined yet
pub sent-carried_in : {C D : Type 0} (p : SideState C) (q : SideState D) (x : Name) → ExaminedFirst p.sent q → HasAccounts q → carried_in q.side x p.sent ≡ carried_in q.side x q.delivered + carried_in q.side x q.undelivered + carried_in q.side x (unexamined p q)
sent-carried_in p q x b d =
    let e : carried_in q.side x p.sent ≡ carried_in q.side x (q.examined ++ unexamined p q) = ap (λ l. carried_in q.side x l) (sym (ap (λ l. q.examined ++ l) (unexamined-is p q b) ∙ b.is)) in
    omega (arith, e, carried_in-append q.side x q.examined (unexamined p q), (d x).carried_sum)

pub sent-released_in : {C D : Type 0} (p : SideState C) (q : SideState D) (x : Name) → ExaminedFirst p.sent q → HasAccounts q → released_in x p.sent ≡ released_in x q.delivered + released_in x q.undelivered + released_in x (unexamined p q)
sent-released_in p q x b d =
    let e : released_in x p.sent ≡ released_in x (q.examined ++ unexamined p q) = ap (λ l. released_in x l) (sym (ap (λ l. q.examined ++ l) (unexamined-is p q b) ∙ b.is)) in
    omega (arith, e, released_in-append x q.examined (unexamined p q), (d x).released_sum)

pub is_other : (a b c : Side) → other_side a ≡ b → is_same_side c a ≡ true → is_same_side c b ≡ false
is_other Page b Page e f = subst (λ z. is_same_side Page z ≡ false) e refl
is_other Page b Plug e f = cc
is_other Plug b Page e f = cc
is_other Plug b Plug e f = subst (λ z. is_same_side Plug z ≡ false) e refl

same_tests : (a b c d : ℕ) → (a < b → c < d) → (c < d → a < b) → nat_lt a b ≡ nat_lt c d
same_tests a b c d f g = grind (arith, nat_tests)

-- Conservation of references: more were sent than given back exactly where something of the other side, or between the sides, still accounts for one.
both_ways : (d : Bool) (h w k r f sp sd sf ft fd ff so lp lq : ℕ) → Balances d h w k r f → (0 < so → ft < r) → (0 < lq → f < r) → sp ≡ r + sd + sf → f ≡ ft + fd + ff → nat_lt 0 (h + k + w + sf + sd + ff + fd + so + lp + lq) ≡ nat_lt ft (sp + lp)
both_ways false h w k r f sp sd sf ft fd ff so lp lq t a b s e =
    same_tests _ _ _ _ (λ z. grind (arith, z, t.within, t.none, t.some, t.unkept, a, b, s, e)) (λ z. grind (arith, z, t.within, t.none, t.some, t.unkept, a, b, s, e))
both_ways true h w k r f sp sd sf ft fd ff so lp lq t a b s e =
    same_tests _ _ _ _ (λ z. grind (arith, z, t.within, t.quiet, t.stays, t.out, t.all, a, b, s, e)) (λ z. grind (arith, z, t.within, t.quiet, t.stays, t.out, t.all, a, b, s, e))

agree_at : {C D : Type 0} (p : SideState C) (q : SideState D) → BothSound p q → (x : Name) → is_same_side x.side p.side ≡ true → nat_lt 0 (local_count x q + count_in_names x q.unreleased + released_count x q.pending_releases + carried_in (other_side p.side) x (unexamined p q) + carried_in (other_side p.side) x q.undelivered + released_in x (unexamined q p) + released_in x p.undelivered + carried_in p.side x (unexamined q p) + references_to x p.handed_over + references_to x q.handed_over) ≡ nat_lt (released_in x p.delivered) (carried_in (other_side p.side) x p.sent + references_to x p.handed_over)
agree_at p q b x o =
    let o' = is_other p.side q.side x.side b.apart o in
    let home : other_side q.side ≡ p.side = other_side-other_side p.side q.side b.apart in
    let back = b.backed' x o' in
    let all : AllBacked p.side x 0 (carried_in q.side x q.delivered) q.sent = subst (λ s. AllBacked s x 0 (carried_in q.side x q.delivered) q.sent) home back.all in
    let r : AllBacked p.side x (0 + released_in x p.examined) (carried_in q.side x q.delivered) (unexamined q p) = subst (λ l. AllBacked p.side x (0 + released_in x p.examined) (carried_in q.side x q.delivered) l) (sym (unexamined-is q p b.behind)) (backed-rest p.side x 0 (carried_in q.side x q.delivered) p.examined b.behind.rest (subst (λ l. AllBacked p.side x 0 (carried_in q.side x q.delivered) l) (sym b.behind.is) all)) in
    let any : 0 < carried_in p.side x (unexamined q p) → released_in x p.delivered < carried_in q.side x q.delivered = λ z. omega (arith, backed-any p.side x (0 + released_in x p.examined) (carried_in q.side x q.delivered) (unexamined q p) r z, (b.accounts x).released_sum) in
    let t = both_ways (is_dead q x.instance) (local_count x q) (released_count x q.pending_releases) (count_in_names x q.unreleased) (carried_in q.side x q.delivered) (released_in x q.sent) (carried_in q.side x p.sent) (carried_in q.side x q.undelivered) (carried_in q.side x (unexamined p q)) (released_in x p.delivered) (released_in x p.undelivered) (released_in x (unexamined q p)) (carried_in p.side x (unexamined q p)) (references_to x p.handed_over) (references_to x q.handed_over) (b.sound'.balances x o') any back.now (sent-carried_in p q x b.behind' b.accounts') (sent-released_in q p x b.behind b.accounts) in
    subst (λ s. nat_lt 0 (local_count x q + count_in_names x q.unreleased + released_count x q.pending_releases + carried_in s x (unexamined p q) + carried_in s x q.undelivered + released_in x (unexamined q p) + released_in x p.undelivered + carried_in p.side x (unexamined q p) + references_to x p.handed_over + references_to x q.handed_over) ≡ nat_lt (released_in x p.delivered) (carried_in s x p.sent + references_to x p.handed_over)) (sym b.apart) t

-- the two tests agree
pub agree : {C D : Type 0} (p : SideState C) (q : SideState D) → BothSound p q → (x : Name) → is_remote_by_places q p x ≡ is_remote_by_messages p x
agree p q b x = cases (is_same_side x.side p.side) refl
  where
    cases : (t : Bool) → is_same_side x.side p.side ≡ t → is_remote_by_places q p x ≡ is_remote_by_messages p x
    cases true e = ap (λ c. is_same_side x.side p.side && (not (is_dead p x.instance) && c)) (agree_at p q b x e)
    cases false e = simp e
