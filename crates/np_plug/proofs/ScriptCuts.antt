-- What a run did by the time that it was cut short, from the words on.
use Rattle.std.proofs.Common.{◌≡◌, ℕ, List, [], ◌++◌, inl, inr, Option, Some, refl, sym, append-nil}
use Rattle.np_model.specs.declared.script.Plugin.{Plugin}
use Rattle.np_model.specs.Journal.{end_line}
use Rattle.np_ports.specs.Peer.{Known}
use Rattle.np_ports.specs.Files.{Contents}
use Rattle.np_model_scripts.specs.Served.{SaysPlugin}
use Rattle.np_end_stops.specs.Causes.{AddsPart}
use Rattle.np_end_lines.specs.ScriptLines.{ScriptRefusal, refusal_line}
use Rattle.np_end_lines.proofs.EndLines.{end_line_is_some}
use Rattle.np_exchange.specs.Session.{Told}
use Rattle.np_plug.specs.Plug.{IsRefusedPlugin, IsDueEarly, RunCut}
use Rattle.np_plug.proofs.Scripts.{WasRead, says-plugin, refused-file}

-- nothing was done
pub nothing-cut : (outcome : Plugin → Known → List ℕ → Known → List ℕ → Type 0) (name : List ℕ) (file_failed : Type 0) (files : Option Contents) (known : Option Known) (taken : Option (List ℕ)) → RunCut outcome name file_failed files known known taken taken
nothing-cut outcome name file_failed files known taken f old first told k o =
    (old, first, k, o, inl (record { whole = end_line 4; line = []; due = inl refl; uncalled = refl; line_part = record { rest = end_line 4; parts = refl }; unfinished = end_line_is_some 4; printed = sym (append-nil first) }))

-- this line was due
abbrev pub DueEarly : List ℕ → Type 0 → Option Contents → List ℕ → Type 0
DueEarly name file_failed files line = (f : Contents) → files ≡ Some f → IsDueEarly (f name) file_failed line

pub early-cut : (outcome : Plugin → Known → List ℕ → Known → List ℕ → Type 0) (name : List ℕ) (file_failed : Type 0) (files : Option Contents) (known : Option Known) (taken0 taken1 : Option (List ℕ)) (line : List ℕ) → DueEarly name file_failed files line → AddsPart taken0 taken1 line → RunCut outcome name file_failed files known known taken0 taken1
early-cut outcome name file_failed files known taken0 taken1 line due adds f old first told k o =
    let p = adds first o in
    (old, first ++ p.0, k, p.3, inl (record { whole = line; line = p.0; due = inr (due f told); uncalled = refl; line_part = record { rest = p.1; parts = p.2 }; unfinished = p.4; printed = refl }))

pub due-file : (name : List ℕ) (file_failed : Type 0) (files : Option Contents) → file_failed → DueEarly name file_failed files (end_line 4)
due-file name file_failed files failed f told = inr (refl, failed)

pub due-script : (name : List ℕ) (file_failed : Type 0) (files0 files1 : Option Contents) (bytes seen : List ℕ) (r : ScriptRefusal) → WasRead files0 files1 name bytes → seen ≡ bytes → IsRefusedPlugin seen r → DueEarly name file_failed files0 (refusal_line r)
due-script name file_failed files0 files1 bytes seen r read same refused f told = inl (r, refused-file files0 files1 name bytes seen r f read same refused told, refl)

pub plugin-cut : (outcome : Plugin → Known → List ℕ → Known → List ℕ → Type 0) (name : List ℕ) (file_failed : Type 0) (files0 files1 : Option Contents) (bytes seen : List ℕ) (plugin : Plugin) (known0 known1 : Option Known) (taken0 taken1 : Option (List ℕ))
    → WasRead files0 files1 name bytes → seen ≡ bytes → SaysPlugin seen plugin → Told (outcome plugin) known0 known1 taken0 taken1 → RunCut outcome name file_failed files0 known0 known1 taken0 taken1
plugin-cut outcome name file_failed files0 files1 bytes seen plugin known0 known1 taken0 taken1 read same says session f old first told k o =
    let y = session old first k o in
    (y.0, y.1, y.2, y.3, inr (plugin, says-plugin files0 files1 name bytes seen plugin f read same says told, y.4))
