-- What a run did by the time that it was cut short, from the words on.
use Rattle.std.proofs.Common.{◌≡◌, ◌≤◌, ◌+◌, ℕ, length, List, [], ◌++◌, inl, inr, Option, Some, None, Result, Ok, Err, refl, sym, subst, append-nil, arith}
use Rattle.np_model.specs.declared.script.Page.{Page}
use Rattle.np_model.specs.Journal.{end_line}
use Rattle.np_ports.specs.Peer.{Known, Starts, started}
use Rattle.np_ports.specs.Files.{Contents}
use Rattle.np_ports.specs.Causes.{Rose}
use Rattle.np_ports.specs.declared.error.PortError.{PortError}
use Rattle.np_ports.specs.declared.error.PortError.TheVariants as ports
use Rattle.np_end_stops.specs.Causes.{AddsPart}
use Rattle.np_end_lines.specs.ScriptLines.{ScriptRefusal, refusal_line}
use Rattle.np_model_scripts.specs.Served.{SaysPage}
use Rattle.np_host.specs.Words.{HostCommand, Run, Check, Show, host_command}
use Rattle.np_exchange.specs.Session.{Told, GaveAtMost}
use Rattle.np_host.specs.Outcomes.{CutShort}
use Rattle.np_host.specs.Host.{IsRefusedPage, IsDueEarly, RunCut, OfRun, CutWords}
use Rattle.np_end_lines.proofs.EndLines.{nothing_added, end_line_is_some}
use Rattle.np_host.proofs.Pages.{WasRead, says-page, refused-file}

-- ---- before the page began

-- nothing was done
pub nothing-cut : (pipe_failed peer_ended : Type 0) (name : List ℕ) (program : List (List ℕ)) (file_failed start_failed : Type 0) (files : Option Contents) (known0 known1 : Option Known) (taken : Option (List ℕ)) → ((old : Known) → known0 ≡ Some old → known1 ≡ Some old) → RunCut (CutShort pipe_failed peer_ended) name program file_failed start_failed files known0 known1 taken taken
nothing-cut pipe_failed peer_ended name program file_failed start_failed files known0 known1 taken stays f old first told k o =
    (old, first, stays old k, o, inl (record { whole = end_line 4; line = []; due = inl (refl, refl); line_part = record { rest = end_line 4; parts = refl }; unfinished = end_line_is_some 4; printed = sym (append-nil first) }))

-- this line was due
abbrev pub DueEarly : List ℕ → List (List ℕ) → Type 0 → Type 0 → Option Contents → Option Known → Option Known → List ℕ → Type 0
DueEarly name program file_failed start_failed files known0 known1 line = (f : Contents) (old : Known) → files ≡ Some f → known0 ≡ Some old → (new : Known) × (known1 ≡ Some new) × IsDueEarly (f name) program file_failed start_failed old new line

pub early-cut : (pipe_failed peer_ended : Type 0) (name : List ℕ) (program : List (List ℕ)) (file_failed start_failed : Type 0) (files : Option Contents) (known0 known1 : Option Known) (taken0 taken1 : Option (List ℕ)) (line : List ℕ) → DueEarly name program file_failed start_failed files known0 known1 line → AddsPart taken0 taken1 line → RunCut (CutShort pipe_failed peer_ended) name program file_failed start_failed files known0 known1 taken0 taken1
early-cut pipe_failed peer_ended name program file_failed start_failed files known0 known1 taken0 taken1 line due adds f old first told k o =
    let d = due f old told k in
    let p = adds first o in
    (d.0, first ++ p.0, d.1, p.3, inl (record { whole = line; line = p.0; due = inr d.2; line_part = record { rest = p.1; parts = p.2 }; unfinished = p.4; printed = refl }))

pub due-script : (name : List ℕ) (program : List (List ℕ)) (file_failed start_failed : Type 0) (files0 files1 : Option Contents) (bytes seen : List ℕ) (known : Option Known) (r : ScriptRefusal) → WasRead files0 files1 name bytes → seen ≡ bytes → IsRefusedPage seen r → DueEarly name program file_failed start_failed files0 known known (refusal_line r)
due-script name program file_failed start_failed files0 files1 bytes seen known r read same refused f old told k = (old, k, inl (r, refused-file files0 files1 name bytes seen r f read same refused told, refl, refl))

pub due-file : (name : List ℕ) (program : List (List ℕ)) (file_failed start_failed : Type 0) (files : Option Contents) (known : Option Known) → file_failed → DueEarly name program file_failed start_failed files known known (end_line 4)
due-file name program file_failed start_failed files known failed f old told k = (old, k, inr (inl (refl, failed, refl)))

-- a start that was answered by this error
pub due-start : (name : List ℕ) (program : List (List ℕ)) (file_failed start_failed : Type 0) (files : Option Contents) (known0 known1 : Option Known) (e : PortError) → e ≡ ports.Failed → Starts known0 known1 (Err e) program → start_failed → DueEarly name program file_failed start_failed files known0 known1 (end_line 11)
due-start name program file_failed start_failed files known0 known1 e is starts failed f old told k =
    let begun : known1 ≡ Some (started old program) = subst (λ (s : Option Known). Starts s known1 (Err ports.Failed) program) k (subst (λ (x : PortError). Starts known0 known1 (Err x) program) is starts) in
    (started old program, begun, inr (inr (refl, failed, refl)))

pub unstarted : (program : List (List ℕ)) (known0 known1 : Option Known) (e : PortError) → e ≡ ports.NoMemory → Starts known0 known1 (Err e) program → (old : Known) → known0 ≡ Some old → known1 ≡ Some old
unstarted program known0 known1 e is starts old k = subst (λ (s : Option Known). Starts s known1 (Err ports.NoMemory) program) k (subst (λ (x : PortError). Starts known0 known1 (Err x) program) is starts)

-- a start gives nothing
pub start-gave : (limit : ℕ) (known0 known1 : Option Known) (r : Result (Unit {0}) PortError) (program : List (List ℕ)) → Starts known0 known1 r program → GaveAtMost limit known0 known1
start-gave limit known0 known1 r program starts old k = at r (subst (λ (s : Option Known). Starts s known1 r program) k starts)
  where
    at : (r : Result (Unit {0}) PortError) → Starts (Some old) known1 r program → (new : Known) × (known1 ≡ Some new) × (length new.given ≤ length old.given + limit)
    at (Ok x) is = (started old program, is, omega arith)
    at (Err ports.Failed) is = (started old program, is, omega arith)
    at (Err ports.NoMemory) is = (old, is, omega arith)

-- ---- over a peer that was started

-- of its faults, those of the pipes are counted from before the start on, which leaves them as they were
pub page-cut : (before begun now : ℕ) (peer_ended : Type 0) (name : List ℕ) (program : List (List ℕ)) (file_failed start_failed : Type 0) (files0 files1 : Option Contents) (bytes seen : List ℕ) (page : Page) (known0 known1 known2 : Option Known) (taken0 taken1 : Option (List ℕ)) (x : Unit {0})
    → begun ≡ before → WasRead files0 files1 name bytes → seen ≡ bytes → SaysPage seen page → Starts known0 known1 (Ok x) program → Told (CutShort (Rose begun now) peer_ended page) known1 known2 taken0 taken1 → RunCut (CutShort (Rose before now) peer_ended) name program file_failed start_failed files0 known0 known2 taken0 taken1
page-cut before begun now peer_ended name program file_failed start_failed files0 files1 bytes seen page known0 known1 known2 taken0 taken1 x stays read same says starts session f old first told k o =
    let is_started : known1 ≡ Some (started old program) = subst (λ (s : Option Known). Starts s known1 (Ok x) program) k starts in
    let y = session (started old program) first is_started o in
    (y.0, y.1, y.2, y.3, inr (page, says-page files0 files1 name bytes seen page f read same says told, subst (λ (n : ℕ). CutShort (Rose n now) peer_ended page (started old program) first y.0 y.1) stays y.4))

-- ---- of the words

pub words-nothing : (pipe_failed peer_ended : Type 0) (words : List (List ℕ)) (file_failed start_failed : Type 0) (files : Option Contents) (known : Option Known) (taken : Option (List ℕ)) → CutWords (CutShort pipe_failed peer_ended) words file_failed start_failed files known known taken taken
words-nothing pipe_failed peer_ended words file_failed start_failed files known taken = at (host_command words)
  where
    at : (o : Option HostCommand) → OfRun o (λ r. RunCut (CutShort pipe_failed peer_ended) r.page r.program file_failed start_failed files known known taken taken) ((known ≡ known) × AddsPart taken taken (end_line 2))
    at None = (refl, nothing_added taken (end_line 2) (end_line_is_some 2))
    at (Some (Run r)) = nothing-cut pipe_failed peer_ended r.page r.program file_failed start_failed files known known taken (λ old k. k)
    at (Some (Check side file)) = tt
    at (Some (Show file)) = tt
