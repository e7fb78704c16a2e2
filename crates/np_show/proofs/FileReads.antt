-- What a call says of files that record their contents, and of a run that stops.
use Rattle.std.proofs.Common.{◌≡◌, ℕ, ◌≤◌, List, length, take, drop, Option, Some, Result, Ok, Err, subst}
use Rattle.std.specs.Prelude.{OnErr}
use Rattle.np_ports.specs.Files.{Contents, ReadsFile, NotesFailure}
use Rattle.np_ports.specs.declared.file_call.FileCall.{FileCall}
use Rattle.np_ports.specs.declared.file_call.FileCall.TheVariants.{Read}
use Rattle.np_end_stops.specs.declared.stop.Stop.{Stop}

-- a piece was read
pub piece-of : (old new : Option Contents) (n : ℕ) (name : List ℕ) (at : ℕ) (buf : List ℕ) (f : Contents) → old ≡ Some f → ReadsFile old new (Ok n) name at buf
    → (new ≡ Some f) × (take n buf ≡ take n (drop at (f name))) × (n ≡ 0 → length (f name) ≤ at)
piece-of old new n name at buf f e h = subst (λ (o : Option Contents). ReadsFile o new (Ok n) name at buf) e h

-- a read that went well is noted as no failure
pub no-failure : (old new : Option (List (List ℕ × FileCall))) (n : ℕ) (name : List ℕ) (l : List (List ℕ × FileCall)) → old ≡ Some l → NotesFailure {T = ℕ} old new (Ok n) name Read → new ≡ Some l
no-failure old new n name l e h = subst (λ (o : Option (List (List ℕ × FileCall))). NotesFailure {T = ℕ} o new (Ok n) name Read) e h

-- what holds anyway holds where the run stops
pub on-stop : {T : Type 0} (result : Result T Stop) (P : Type 0) → P → OnErr result P
on-stop (Ok x) P p = tt
on-stop (Err stop) P p = p
