-- The laws of runs, for any plans and any control. Each is the contract of a function of src/laws.rt. (This project's own.)
use Rattle.std.specs.Prelude.{◌≡◌, ℕ, suc, ◌≤◌, List, ◌++◌, length, take, drop, Bool, Option, Some, None}
use Rattle.np_values.specs.declared.name.Side.{Side}
use Rattle.np_values.specs.declared.name.Side.TheVariants.{Page, Plug}
use Rattle.np_message.specs.Message.{Message}
use Rattle.np_message.specs.Rules.{Each, KeepsFormat}
use Rattle.np_journal.specs.declared.line.Line.{Line}
use Rattle.np_machine.specs.declared.step.PutFile.{PutFile}
use Rattle.np_machine.specs.declared.step.Step.{Step}
use Rattle.np_machine.specs.declared.draft.Sending.{Sending}
use Rattle.np_values.specs.declared.name.Name.{Name}
use Rattle.np_machine.specs.Side.{SideState, at_start}
use Rattle.np_machine.specs.Messages.{examine, send_draft}
use Rattle.np_machine.specs.Steps.{run_step}
use Rattle.np_machine.specs.Plan.{Plan, run_plan, Plans}
use Rattle.np_machine.specs.Turn.{RemoteTest, is_remote_by_places, is_remote_by_messages, next_message, turn, endpoint_run}
use Rattle.np_machine.specs.Machine.{Machine, both_start, page_turn, plugin_turn, run, machine_run}
use Rattle.np_machine.specs.Rest.{RestsAt, PageRests, PluginRests}
use Rattle.np_machine.specs.Honest.{IsHonest}
use Rattle.np_machine.specs.Sound.{IsSound}
use Rattle.np_machine.specs.Rising.{KeepsReleases}
use Rattle.np_machine.specs.Naming.{KeepsNames}
use Rattle.np_machine.specs.Instances.{serial_in}

-- Whatever the plans are, and whatever order the sides take turns in: each side alone, given the messages that the other side sent, reaches the state that it has in the machine.
abbrev pub EndpointLaw : Type 0 → Type 0 → Type 0
EndpointLaw C D = (P : Plans C) (Q : Plans D) (c : C) (d : D) (order : List Side) →
    let w = run P Q order (both_start c d) in
    ((turns : ℕ) × (endpoint_run P w.plugin.sent turns (at_start Page c) ≡ w.page)) × ((turns : ℕ) × (endpoint_run Q w.page.sent turns (at_start Plug d) ≡ w.plugin))

-- What the page alone rests at with the first k messages that the plug-in sends in a run is the page of the run that only these reach.
abbrev pub CutLaw : Type 0 → Type 0 → Type 0
CutLaw C D = (P : Plans C) (Q : Plans D) (c : C) (d : D) (rounds k : ℕ) (p : SideState C) →
    let w = machine_run P Q None None rounds (both_start c d) in
    k ≤ length w.plugin.sent → RestsAt P (take k w.plugin.sent) (at_start Page c) p → PageRests P Q (both_start c d) k p

-- The same of the plug-in alone, with the first j messages that the page sends in a run.
abbrev pub PluginCutLaw : Type 0 → Type 0 → Type 0
PluginCutLaw C D = (P : Plans C) (Q : Plans D) (c : C) (d : D) (rounds j : ℕ) (q : SideState D) →
    let w = machine_run P Q None None rounds (both_start c d) in
    j ≤ length w.page.sent → RestsAt Q (take j w.page.sent) (at_start Plug d) q → PluginRests P Q (both_start c d) j q

-- What the page rests at in the run that only the first k messages of the plug-in reach is what it rests at alone with these.
abbrev pub AloneLaw : Type 0 → Type 0 → Type 0
AloneLaw C D = (P : Plans C) (Q : Plans D) (c : C) (d : D) (rounds k : ℕ) (p : SideState C) →
    let w = machine_run P Q None None rounds (both_start c d) in
    k ≤ length w.plugin.sent → PageRests P Q (both_start c d) k p → RestsAt P (take k w.plugin.sent) (at_start Page c) p

-- What the plug-in rests at in the run that only the first j messages of the page reach is what it rests at alone with these.
abbrev pub PluginAloneLaw : Type 0 → Type 0 → Type 0
PluginAloneLaw C D = (P : Plans C) (Q : Plans D) (c : C) (d : D) (rounds j : ℕ) (q : SideState D) →
    let w = machine_run P Q None None rounds (both_start c d) in
    j ≤ length w.page.sent → PluginRests P Q (both_start c d) j q → RestsAt Q (take j w.page.sent) (at_start Plug d) q

-- There is one rest: of a side alone, and of each side in a cut run.
abbrev pub OneRestLaw : Type 0 → Type 0 → Type 0
OneRestLaw C D = (P : Plans C) (Q : Plans D) (c : C) (d : D) →
    ((got : List Message) (p q : SideState C) → RestsAt P got (at_start Page c) p → RestsAt P got (at_start Page c) q → p ≡ q)
    × ((got : List Message) (p q : SideState D) → RestsAt Q got (at_start Plug d) p → RestsAt Q got (at_start Plug d) q → p ≡ q)
    × ((k : ℕ) (p q : SideState C) → PageRests P Q (both_start c d) k p → PageRests P Q (both_start c d) k q → p ≡ q)
    × ((j : ℕ) (p q : SideState D) → PluginRests P Q (both_start c d) j p → PluginRests P Q (both_start c d) j q → p ≡ q)

-- With more messages a side alone still reaches each state that it reached, perhaps after another number of turns.
abbrev pub MoreMessagesLaw : Type 0 → Type 0
MoreMessagesLaw C = (P : Plans C) (got more : List Message) (turns : ℕ) (from : SideState C) →
    (k : ℕ) × (endpoint_run P (got ++ more) k from ≡ endpoint_run P got turns from)

-- What a side alone has printed, sent and put by some turn, when only the first messages have come, is a prefix of what it printed, sent and put where it rests with all of them.
abbrev pub JournalLaw : Type 0 → Type 0
JournalLaw C = (P : Plans C) (got more : List Message) (turns : ℕ) (from p : SideState C) →
    RestsAt P (got ++ more) from p →
    ((lines : List Line) × (p.journal ≡ (endpoint_run P got turns from).journal ++ lines))
    × ((messages : List Message) × (p.sent ≡ (endpoint_run P got turns from).sent ++ messages))
    × ((files : List PutFile) × (p.files ≡ (endpoint_run P got turns from).files ++ files))

-- The rounds of a machine are turns in one order.
abbrev pub RoundsLaw : Type 0 → Type 0 → Type 0
RoundsLaw C D = (P : Plans C) (Q : Plans D) (rounds : ℕ) (w : Machine C D) →
    (order : List Side) × (machine_run P Q None None rounds w ≡ run P Q order w)

-- Whatever the plans are, and whatever order the sides take turns in, the message that a side examines next is honest.
abbrev pub HonestNamesLaw : Type 0 → Type 0 → Type 0
HonestNamesLaw C D = (P : Plans C) (Q : Plans D) (c : C) (d : D) (order : List Side) (m : Message) →
    let w = run P Q order (both_start c d) in
    (next_message w.plugin.sent w.page ≡ Some m → IsHonest w.page m)
    × (next_message w.page.sent w.plugin ≡ Some m → IsHonest w.plugin m)

-- One side alone keeps the counts of the other side's objects in balance, whatever messages reach it: at the start, after each step, and so at each turn.
abbrev pub SoundLaw : Type 0 → Type 0
SoundLaw C =
    ((side : Side) (c : C) → IsSound (at_start side c))
    × ((remote : Name → Bool) (step : Step) (p : SideState C) → IsSound p → IsSound (run_step remote step p))
    × ((sends : Option Sending) (p : SideState C) → IsSound p → IsSound (send_draft sends p))
    × ((m : Message) (p : SideState C) → IsSound p → IsSound (examine m p))
    × ((P : Plans C) (got : List Message) (turns : ℕ) (side : Side) (c : C) → IsSound (endpoint_run P got turns (at_start side c)))

-- One side alone gives back as the wire format has it, where the messages that reach it keep the format: at the start, after each step, and so at each turn.
abbrev pub ReleasesLaw : Type 0 → Type 0
ReleasesLaw C =
    ((side : Side) (c : C) → KeepsReleases (at_start side c))
    × ((remote : Name → Bool) (step : Step) (p : SideState C) → IsSound p → KeepsReleases p → KeepsReleases (run_step remote step p))
    × ((sends : Option Sending) (p : SideState C) → KeepsReleases p → KeepsReleases (send_draft sends p))
    × ((m : Message) (p : SideState C) → KeepsFormat m → KeepsReleases p → KeepsReleases (examine m p))
    × ((P : Plans C) (got : List Message) (turns : ℕ) (side : Side) (c : C) → Each KeepsFormat got → KeepsReleases (endpoint_run P got turns (at_start side c)))

-- The objects of one side are its own, in rising order of names, and no name comes twice: the last serial of an instance never falls, and a new object has the one after it.
abbrev pub NamesLaw : Type 0 → Type 0
NamesLaw C =
    ((side : Side) (c : C) → KeepsNames (at_start side c))
    × ((remote : Name → Bool) (step : Step) (p : SideState C) → KeepsNames p → KeepsNames (run_step remote step p))
    × ((sends : Option Sending) (p : SideState C) → KeepsNames p → KeepsNames (send_draft sends p))
    × ((remote : Name → Bool) (step : Step) (p : SideState C) (n : ℕ) → serial_in n p.instances ≤ serial_in n (run_step remote step p).instances)
    × ((P : Plans C) (got : List Message) (turns : ℕ) (side : Side) (c : C) → KeepsNames (endpoint_run P got turns (at_start side c)))
    × ((P : Plans C) (got : List Message) (turns : ℕ) (from : SideState C) (n : ℕ) → serial_in n (endpoint_run P got turns from).instances ≤ serial_in n (endpoint_run P got (suc turns) from).instances)

-- What one side alone examined is a beginning of the messages that reach it.
abbrev pub ExaminedLaw : Type 0 → Type 0
ExaminedLaw C = (P : Plans C) (got : List Message) (turns : ℕ) (side : Side) (c : C) →
    (later : List Message) × (got ≡ (endpoint_run P got turns (at_start side c)).examined ++ later)

-- Both tests of what is remotely referenced agree at each state of each run: a look at all that can refer to an object, and the count of one side.
abbrev pub RemoteLaw : Type 0 → Type 0 → Type 0
RemoteLaw C D = (P : Plans C) (Q : Plans D) (c : C) (d : D) (order : List Side) (x : Name) →
    let w = run P Q order (both_start c d) in
    (is_remote_by_places w.plugin w.page x ≡ is_remote_by_messages w.page x)
    × (is_remote_by_places w.page w.plugin x ≡ is_remote_by_messages w.plugin x)

-- A plan delivers some of the messages that wait, the one that was examined last first, and leaves the others.
abbrev pub DeliveredLaw : Type 0 → Type 0
DeliveredLaw C = (remote : RemoteTest C) (plan : Plan C) (p : SideState C) → (k : ℕ) × ((run_plan remote plan p).undelivered ≡ drop k p.undelivered)

-- At each state of each run a turn of a side is what it is by that side's own count of references: nothing of the other side but its messages is looked at.
abbrev pub TurnsLaw : Type 0 → Type 0 → Type 0
TurnsLaw C D = (P : Plans C) (Q : Plans D) (c : C) (d : D) (order : List Side) →
    let w = run P Q order (both_start c d) in
    ((page_turn P None w).page ≡ turn is_remote_by_messages P w.plugin.sent w.page)
    × ((plugin_turn Q None w).plugin ≡ turn is_remote_by_messages Q w.page.sent w.plugin)
