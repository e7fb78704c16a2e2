-- Reading a file piece by piece.
use Rattle.std.proofs.Common.{rules, ◌≡◌, ℕ, zero, suc, zero-add, ◌+◌, ◌≤◌, List, [], ◌∷◌, ◌++◌, length, take, drop, refl, ap, sym, ◌∙◌, arith, Option, Some, Ok, Err, subst}
use Rattle.std.proofs.lemmas.List.{length-append, length-take-le, take_all, same_lists, places}
use Rattle.np_ports.specs.Files.{Contents, ReadsFile, NotesFailure}
use Rattle.np_ports.specs.declared.file_call.FileCall.{FileCall}
use Rattle.np_ports.specs.declared.file_call.FileCall.TheVariants.{Read}
use Rattle.np_ports.specs.declared.error.PortError.{PortError}

split : (all : List ℕ) (given n : ℕ) → take (given + n) all ≡ take given all ++ take n (drop given all)
split [] given n = same_lists _ _ (search (rules, places)) (λ k d h. grind (arith, places))
split (x ∷ xs) zero n = rw zero-add refl
split (x ∷ xs) (suc g) n = let e : suc g + n ≡ suc (g + n) = omega arith in rw e (ap (λ (l : List ℕ). x ∷ l) (split xs g n))

pub more_read : (f bytes buf new : List ℕ) (n at : ℕ) → at ≡ length bytes → bytes ≡ take (length bytes) f → n ≤ length buf → take n buf ≡ take n (drop at f) → new ≡ bytes ++ take n buf → new ≡ take (length new) f
more_read f bytes buf new n at here so_far within same is =
    let size : length new ≡ length bytes + n = ap length is ∙ length-append bytes (take n buf) ∙ ap (λ (k : ℕ). length bytes + k) (length-take-le n buf within) in
    let there : take n buf ≡ take n (drop (length bytes) f) = same ∙ ap (λ (k : ℕ). take n (drop k f)) here in
    let whole : bytes ++ take n buf ≡ take (length bytes + n) f = ap (λ (l : List ℕ). l ++ take n buf) so_far ∙ ap (λ (l : List ℕ). take (length bytes) f ++ l) there ∙ sym (split f (length bytes) n) in
    is ∙ whole ∙ ap (λ (k : ℕ). take k f) (sym size)

pub all_read : (f bytes : List ℕ) (limit : ℕ) → bytes ≡ take (length bytes) f → length bytes ≤ limit → length f ≤ length bytes → bytes ≡ take limit f
all_read f bytes limit so_far short end = so_far ∙ take_all (length bytes) f end ∙ sym (take_all limit f (omega arith))

pub full_read : (f bytes : List ℕ) (limit : ℕ) → bytes ≡ take (length bytes) f → length bytes ≤ limit → limit ≤ length bytes → bytes ≡ take limit f
full_read f bytes limit so_far short long = let e : length bytes ≡ limit = omega arith in so_far ∙ ap (λ (k : ℕ). take k f) e

-- what a call says of files that tell their contents
pub known_read : (old new : Option Contents) (n : ℕ) (name : List ℕ) (at : ℕ) (buf : List ℕ) (f : Contents) → old ≡ Some f → ReadsFile old new (Ok n) name at buf
    → (new ≡ Some f) × (take n buf ≡ take n (drop at (f name))) × (n ≡ 0 → length (f name) ≤ at)
known_read old new n name at buf f e h = subst (λ (o : Option Contents). ReadsFile o new (Ok n) name at buf) e h

pub kept_read : (old new : Option Contents) (e : PortError) (name : List ℕ) (at : ℕ) (buf : List ℕ) (f : Contents) → old ≡ Some f → ReadsFile old new (Err e) name at buf → new ≡ Some f
kept_read old new error name at buf f e h = subst (λ (o : Option Contents). ReadsFile o new (Err error) name at buf) e h

pub no_failure : (old new : Option (List (List ℕ × FileCall))) (n : ℕ) (name : List ℕ) (l : List (List ℕ × FileCall)) → old ≡ Some l → NotesFailure {T = ℕ} old new (Ok n) name Read → new ≡ Some l
no_failure old new n name l e h = subst (λ (o : Option (List (List ℕ × FileCall))). NotesFailure {T = ℕ} o new (Ok n) name Read) e h
