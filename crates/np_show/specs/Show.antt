-- What the host does where it is told to show a file of wire bytes. (This project's own.)
use Rattle.std.specs.Prelude.{◌≡◌, ◌⊎◌, ℕ, List, [], ◌∷◌, ◌++◌, take, Option, Some}
use Rattle.np_model.specs.Journal.{end_line}
use Rattle.np_ports.specs.Files.{Contents}
use Rattle.np_ports.specs.declared.file_call.FileCall.{FileCall}
use Rattle.np_ports.specs.declared.file_call.FileCall.TheVariants.{Read}
use Rattle.np_end_stops.specs.Causes.{Adds, AddsPart}
use Rattle.np_show.specs.Listing.{listing, file_listing, shown_text, shown_status}
use Rattle.np_end_stops.specs.Status.{DONE, FILE_FAILED, REFUSED}

-- for files that record their contents, all that there is to show of the named one was printed, and this is its status
abbrev pub ShowsAll : List ℕ → Option Contents → Option (List ℕ) → Option (List ℕ) → ℕ → Type 0
ShowsAll name files taken0 taken1 status = (f : Contents) → files ≡ Some f → (status ≡ shown_status (f name)) × Adds taken0 taken1 (shown_text (f name))

-- the lines of the messages in the first bytes of a file, with which its lines begin, and the end line of 4
pub record IsPartText (content text : List ℕ) : Type 0 where
  pub count : ℕ
  pub others : List ℕ
  pub begins : (file_listing content).lines ≡ (listing 0 (take count content)).lines ++ others
  pub text_is : text ≡ (listing 0 (take count content)).lines ++ end_line 4

-- a read of the file failed: for files that record their contents, such a part was printed
abbrev pub ShowsPart : List ℕ → Option Contents → Option (List ℕ) → Option (List ℕ) → Type 0
ShowsPart name files taken0 taken1 = (f : Contents) → files ≡ Some f → (text : List ℕ) × IsPartText (f name) text × Adds taken0 taken1 text

-- what was to be printed: all, or such a part where the file failed
abbrev pub IsDueText : List ℕ → Type 0 → List ℕ → Type 0
IsDueText content file_failed text = (text ≡ shown_text content) ⊎ (IsPartText content text × file_failed)

-- out of memory, or the output failed: for files that record their contents, a part of what was to be printed was printed, and not all
abbrev pub ShowCut : List ℕ → Type 0 → Option Contents → Option (List ℕ) → Option (List ℕ) → Type 0
ShowCut name file_failed files taken0 taken1 = (f : Contents) → files ≡ Some f → (text : List ℕ) × IsDueText (f name) file_failed text × AddsPart taken0 taken1 text

-- the statuses of a listing that wasn't cut short
abbrev pub IsShowStatus : ℕ → Type 0
IsShowStatus status = (status ≡ DONE) ⊎ ((status ≡ FILE_FAILED) ⊎ (status ≡ REFUSED))

-- the files stay as they were
abbrev pub KeepsFiles : Option Contents → Option Contents → Type 0
KeepsFiles old new = (f : Contents) → old ≡ Some f → new ≡ Some f

-- at most one call of the files failed, a read of the named one
abbrev pub NotesReadOnly : List ℕ → Option (List (List ℕ × FileCall)) → Option (List (List ℕ × FileCall)) → Type 0
NotesReadOnly name old new = (l : List (List ℕ × FileCall)) → old ≡ Some l → (new ≡ Some l) ⊎ (new ≡ Some (l ++ (name, Read) ∷ []))
