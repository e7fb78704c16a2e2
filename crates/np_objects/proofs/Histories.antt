-- What any list of calls leaves of a store.
use Rattle.std.proofs.Common.{◌≡◌, ◌≢◌, ℕ, ◌+◌, ◌<◌, ◌≤◌, List, [], ◌∷◌, length, Bool, true, false, refl, sym, ap, ◌∙◌, true≢false, arith, is_some}
use Rattle.std.specs.Prelude.{◌||◌, ◌==◌, if◌then◌else◌}
use Rattle.std.proofs.lemmas.Bool.Decides.{nat_tests}
use Rattle.np_values.specs.declared.name.Side.{Side}
use Rattle.np_values.specs.declared.name.Name.{Name}
use Rattle.np_objects.specs.declared.object.LiveObject.{LiveObject}
use Rattle.np_objects.specs.Fields.{fields_set, without_field}
use Rattle.np_objects.specs.LiveObjects.{is_same, object_at, holds_of, at_name, raised, lowered, pin_set, fields_changed, fresh}
use Rattle.np_objects.specs.Objects.{Objects, IsKept, no_objects, numbering_of, numbered, killed, last_serial, is_live, holds_in, next_name, after_create}
use Rattle.np_objects.specs.History.{Call, Create, Hold, Unhold, Pin, Unpin, SetField, RemoveField, TakeDead, Kill, after, IsAllowed, IsNewName, after_all, AreAllowed, holds_among, unholds_among, takes_out}
use Rattle.np_objects.proofs.Names.{same-is}
use Rattle.np_objects.proofs.Finding.{kept}
use Rattle.np_objects.proofs.Keeping.{kept-edit, kept-take, kept-create, kept-kill, next-unused, last-rises}
use Rattle.np_objects.proofs.Lookups.{kept-at, raised-at, lowered-at, with-at, without-at}

abbrev IsValid : Objects → Type 0
IsValid s = IsKept s.side s.live s.instances

valid-start : (side : Side) → IsValid (no_objects side)
valid-start side = record { few = omega arith; named = refl; instances = refl }

valid-created : (i class : ℕ) (s : Objects) → i < 256 → IsValid s → (b : Bool) → (length s.live == 1024) ≡ b → IsValid (if b then s else after_create i class s)
valid-created i class s small v false e =
    let room : length s.live ≢ 1024 = grind (arith, nat_tests) in
    kept-create s.side s.instances s.live (after_create i class s).live i class (numbered (numbering_of i s.instances)) (next_name i s) small room refl refl refl v
valid-created i class s small v true e = v

valid-after : (c : Call) (s : Objects) → IsAllowed c s → IsValid s → IsValid (after c s)
valid-after (Create i class) s a v = valid-created i class s a v (length s.live == 1024) refl
valid-after (Hold x) s a v = kept-edit s.side s.instances x raised s.live _ (λ o. refl) refl v
valid-after (Unhold x) s a v = kept-edit s.side s.instances x lowered s.live _ (λ o. refl) refl v
valid-after (Pin x) s a v = kept-edit s.side s.instances x (pin_set true) s.live _ (λ o. refl) refl v
valid-after (Unpin x) s a v = kept-edit s.side s.instances x (pin_set false) s.live _ (λ o. refl) refl v
valid-after (SetField x key value) s a v = kept-edit s.side s.instances x (fields_changed (fields_set key value)) s.live _ (λ o. refl) refl v
valid-after (RemoveField x key) s a v = kept-edit s.side s.instances x (fields_changed (without_field key)) s.live _ (λ o. refl) refl v
valid-after (TakeDead x) s a v = kept-take s.side s.instances x s.live _ refl v
valid-after (Kill i) s a v = kept-kill s.side s.instances s.live i (killed (numbering_of i s.instances)) a refl v

valid-all : (cs : List Call) (s : Objects) → AreAllowed cs s → IsValid s → IsValid (after_all cs s)
valid-all [] s a v = v
valid-all (c ∷ cs) s a v = valid-all cs (after c s) a.1 (valid-after c s a.0 v)

pub valid : (side : Side) (cs : List Call) → AreAllowed cs (no_objects side) → IsValid (after_all cs (no_objects side))
valid side cs a = valid-all cs (no_objects side) a (valid-start side)

-- serials

serial-created : (i class j : ℕ) (s : Objects) → i < 256 → IsValid s → (b : Bool) → last_serial j s ≤ last_serial j (if b then s else after_create i class s)
serial-created i class j s small v false = last-rises s.instances i (numbered (numbering_of i s.instances)) (let l = v.instances in omega (arith, l, small)) (omega arith) j
serial-created i class j s small v true = omega arith

serial-rises : (c : Call) (s : Objects) (j : ℕ) → IsAllowed c s → IsValid s → last_serial j s ≤ last_serial j (after c s)
serial-rises (Create i class) s j a v = serial-created i class j s a v (length s.live == 1024)
serial-rises (Hold x) s j a v = omega arith
serial-rises (Unhold x) s j a v = omega arith
serial-rises (Pin x) s j a v = omega arith
serial-rises (Unpin x) s j a v = omega arith
serial-rises (SetField x key value) s j a v = omega arith
serial-rises (RemoveField x key) s j a v = omega arith
serial-rises (TakeDead x) s j a v = omega arith
serial-rises (Kill i) s j a v = last-rises s.instances i (killed (numbering_of i s.instances)) (let l = v.instances in omega (arith, l, a)) (omega arith) j

pub serials-rise : (cs : List Call) (s : Objects) (j : ℕ) → AreAllowed cs s → IsValid s → last_serial j s ≤ last_serial j (after_all cs s)
serials-rise [] s j a v = omega arith
serials-rise (c ∷ cs) s j a v =
    let one = serial-rises c s j a.0 v in
    let rest = serials-rise cs (after c s) j a.1 (valid-after c s a.0 v) in
    omega (arith, one, rest)

-- a name that was given and doesn't live

-- a new object has another name
new-name : (i : ℕ) (s : Objects) (x : Name) → x.serial ≤ last_serial x.instance s → is_same x (next_name i s) ≡ false
new-name i s x given = go (is_same x (next_name i s)) refl
  where
    go : (b : Bool) → is_same x (next_name i s) ≡ b → is_same x (next_name i s) ≡ false
    go true q =
        let e = same-is x (next_name i s) q in
        let a : x.serial ≡ last_serial i s + 1 = ap (λ (n : Name). n.serial) e in
        let b : x.instance ≡ i = ap (λ (n : Name). n.instance) e in
        let d : last_serial x.instance s ≡ last_serial i s = ap (λ k. last_serial k s) b in
        absurd (omega (arith, a, d, given))
    go false q = q

seen-created : (i class : ℕ) (s : Objects) (x : Name) → IsValid s → is_same x (next_name i s) ≡ false → (b : Bool) → object_at x (if b then s else after_create i class s).live ≡ object_at x s.live
seen-created i class s x v d false =
    with-at (fresh (next_name i s) class) x s.live (next-unused s.side s.instances s.live i s v refl) ∙ simp d refl
seen-created i class s x v d true = refl

gone-stays : (c : Call) (s : Objects) (x : Name) → IsAllowed c s → IsValid s → x.serial ≤ last_serial x.instance s → is_live x s ≡ false → is_live x (after c s) ≡ false
gone-stays (Create i class) s x a v given n = ap is_some (seen-created i class s x v (new-name i s x given) (length s.live == 1024)) ∙ n
gone-stays (Hold y) s x a v given n = kept-at is_some x y raised (λ o. refl) (λ o. refl) s.live ∙ n
gone-stays (Unhold y) s x a v given n = kept-at is_some x y lowered (λ o. refl) (λ o. refl) s.live ∙ n
gone-stays (Pin y) s x a v given n = kept-at is_some x y (pin_set true) (λ o. refl) (λ o. refl) s.live ∙ n
gone-stays (Unpin y) s x a v given n = kept-at is_some x y (pin_set false) (λ o. refl) (λ o. refl) s.live ∙ n
gone-stays (SetField y key value) s x a v given n = kept-at is_some x y (fields_changed (fields_set key value)) (λ o. refl) (λ o. refl) s.live ∙ n
gone-stays (RemoveField y key) s x a v given n = kept-at is_some x y (fields_changed (without_field key)) (λ o. refl) (λ o. refl) s.live ∙ n
gone-stays (TakeDead y) s x a v given n = go (is_same x y) refl
  where
    go : (b : Bool) → is_same x y ≡ b → is_live x (after (TakeDead y) s) ≡ false
    go true q =
        let r = same-is x y q in
        let m : is_live y s ≡ false = ap (λ z. is_live z s) (sym r) ∙ n in
        ap (λ l. is_some (object_at x l)) (sym (kept y s.live m)) ∙ n
    go false q = ap is_some (without-at x y s.live q) ∙ n
gone-stays (Kill i) s x a v given n = n

pub never-again : (cs : List Call) (s : Objects) (x : Name) → AreAllowed cs s → IsValid s → x.serial ≤ last_serial x.instance s → is_live x s ≡ false → is_live x (after_all cs s) ≡ false
never-again [] s x a v given n = n
never-again (c ∷ cs) s x a v given n =
    let up = serial-rises c s x.instance a.0 v in
    never-again cs (after c s) x a.1 (valid-after c s a.0 v) (omega (arith, up, given)) (gone-stays c s x a.0 v given n)

-- holds

-- a live object has another name than a new one
other-name : (i : ℕ) (s : Objects) (x : Name) → is_live (next_name i s) s ≡ false → is_live x s ≡ true → is_same x (next_name i s) ≡ false
other-name i s x new l = go (is_same x (next_name i s)) refl
  where
    go : (b : Bool) → is_same x (next_name i s) ≡ b → is_same x (next_name i s) ≡ false
    go true q = absurd (true≢false (sym l ∙ ap (λ z. is_live z s) (same-is x (next_name i s) q) ∙ new))
    go false q = q

-- what one call leaves

created-kept : (i class : ℕ) (s : Objects) (x : Name) → is_live (next_name i s) s ≡ false → is_live x s ≡ true → (b : Bool) → object_at x (if b then s else after_create i class s).live ≡ object_at x s.live
created-kept i class s x new l false = with-at (fresh (next_name i s) class) x s.live new ∙ simp (other-name i s x new l) refl
created-kept i class s x new l true = refl

-- an edit that keeps the holds
edit-kept : (x y : Name) (f : LiveObject → LiveObject) (os : List LiveObject) → ((o : LiveObject) → (f o).name ≡ o.name) → ((o : LiveObject) → (f o).holds ≡ o.holds) → is_some (object_at x os) ≡ true
    → (is_some (object_at x (at_name y f os)) ≡ true) × (holds_of (object_at x (at_name y f os)) + 0 ≡ holds_of (object_at x os) + 0)
edit-kept x y f os k h l = (kept-at is_some x y f k (λ o. refl) os ∙ l, let e = kept-at holds_of x y f k h os in omega (arith, e))

pub either : (a b : Bool) → (a || b) ≡ false → (a ≡ false) × (b ≡ false)
either false b e = (refl, e)
either true b e = cc

pub kept-one : (c : Call) (s : Objects) (x : Name) → IsAllowed c s → IsNewName c s → is_live x s ≡ true → takes_out x (c ∷ []) ≡ false
    → (is_live x (after c s) ≡ true) × (holds_in x (after c s) + unholds_among x (c ∷ []) ≡ holds_in x s + holds_among x (c ∷ []))
kept-one (Create i class) s x a new l t =
    let seen = created-kept i class s x new l (length s.live == 1024) in
    (ap is_some seen ∙ l, let h = ap holds_of seen in omega (arith, h))
kept-one (Hold y) s x a new l t = (kept-at is_some x y raised (λ o. refl) (λ o. refl) s.live ∙ l, let h = raised-at x y s.live a in omega (arith, h))
kept-one (Unhold y) s x a new l t = (kept-at is_some x y lowered (λ o. refl) (λ o. refl) s.live ∙ l, let h = lowered-at x y s.live a in omega (arith, h))
kept-one (Pin y) s x a new l t = edit-kept x y (pin_set true) s.live (λ o. refl) (λ o. refl) l
kept-one (Unpin y) s x a new l t = edit-kept x y (pin_set false) s.live (λ o. refl) (λ o. refl) l
kept-one (SetField y key value) s x a new l t = edit-kept x y (fields_changed (fields_set key value)) s.live (λ o. refl) (λ o. refl) l
kept-one (RemoveField y key) s x a new l t = edit-kept x y (fields_changed (without_field key)) s.live (λ o. refl) (λ o. refl) l
kept-one (TakeDead y) s x a new l t =
    let seen = without-at x y s.live (either (is_same x y) false t).0 in
    (ap is_some seen ∙ l, let h = ap holds_of seen in omega (arith, h))
kept-one (Kill i) s x a new l t = (l, refl)

-- what a list of calls holds, a call at a time

holds-first : (x : Name) (c : Call) (cs : List Call) → holds_among x (c ∷ cs) ≡ holds_among x (c ∷ []) + holds_among x cs
holds-first x (Hold y) cs = omega arith
holds-first x c cs = omega arith

unholds-first : (x : Name) (c : Call) (cs : List Call) → unholds_among x (c ∷ cs) ≡ unholds_among x (c ∷ []) + unholds_among x cs
unholds-first x (Unhold y) cs = omega arith
unholds-first x c cs = omega arith

takes-first : (x : Name) (c : Call) (cs : List Call) → takes_out x (c ∷ cs) ≡ false → (takes_out x (c ∷ []) ≡ false) × (takes_out x cs ≡ false)
takes-first x (TakeDead y) cs t = let p = either (is_same x y) (takes_out x cs) t in (simp p.0 refl, p.1)
takes-first x c cs t = (refl, t)

new-name-of : (c : Call) (s : Objects) → IsValid s → IsNewName c s
new-name-of (Create i class) s v = next-unused s.side s.instances s.live i s v refl
new-name-of c s v = tt

pub counted : (cs : List Call) (s : Objects) (x : Name) → IsValid s → AreAllowed cs s → is_live x s ≡ true → takes_out x cs ≡ false
    → holds_in x (after_all cs s) + unholds_among x cs ≡ holds_in x s + holds_among x cs
counted [] s x v a l t = refl
counted (c ∷ cs) s x v a l t =
    let p = takes-first x c cs t in
    let one = kept-one c s x a.0 (new-name-of c s v) l p.0 in
    let rest = counted cs (after c s) x (valid-after c s a.0 v) a.1 one.0 p.1 in
    omega (arith, one.1, rest, holds-first x c cs, unholds-first x c cs)
