-- The page alone with a prefix of the plug-in's wire text is the page of the one process that only the whole messages of that prefix reach.
use Rattle.std.specs.Prelude.{◌≡◌, ℕ, ◌+◌, ◌*◌, ◌≤◌, List, ◌++◌, length, ◌⊎◌}
use Rattle.np_model.specs.declared.script.Page.{Page}
use Rattle.np_message.specs.Message.{Message}
use Rattle.np_message.specs.Encoding.{encodings}
use Rattle.np_message.specs.Rules.{AreMessages}
use Rattle.np_message.specs.Decoding.{Partial, front}
use Rattle.np_model.specs.Side.{SideState}
use Rattle.np_model.specs.PagePlan.{PageControl}
use Rattle.np_model.specs.declared.script.Plugin.{Plugin}
use Rattle.np_model.specs.HostRun.{HostRests, IsPluginText}
use Rattle.np_model.specs.Alone.{Role, page_role, ComesTo, WaitsAt, EndsAt, RefusesNothing}

-- the bytes are n messages one after another, and less than a whole one
pub record IsWhole (bytes : List ℕ) (n : ℕ) : Type 0 where
  pub messages : List Message
  pub rest : List ℕ
  pub count : length messages ≡ n
  pub keep : AreMessages messages
  pub parts : bytes ≡ encodings messages ++ rest
  pub partial : front (length (encodings messages)) rest ≡ Partial

-- bytes have one number of whole messages
abbrev pub OneWholeLaw : Type 0
OneWholeLaw = (bytes : List ℕ) (n m : ℕ) → IsWhole bytes n → IsWhole bytes m → n ≡ m

-- where the page waits with these bytes, it rests in the one process at the same place
abbrev pub WaitsLaw : Type 0
WaitsLaw = (page : Page) (plugin : Plugin) (given : List ℕ) (side : SideState PageControl) → IsPluginText page plugin given → WaitsAt (page_role page) given side → HostRests page plugin (length side.examined) side × IsWhole given (length side.examined)

-- and where it ends
abbrev pub EndsLaw : Type 0
EndsLaw = (page : Page) (plugin : Plugin) (given : List ℕ) (side : SideState PageControl) → IsPluginText page plugin given → EndsAt (page_role page) given side → HostRests page plugin (length side.examined) side × IsWhole given (length side.examined)

-- it does rest in that run
abbrev pub ComesToRestLaw : Type 0
ComesToRestLaw = (page : Page) (plugin : Plugin) (given : List ℕ) → IsPluginText page plugin given → (n : ℕ) × (side : SideState PageControl) × IsWhole given n × HostRests page plugin n side

-- nothing of such bytes is refused
abbrev pub NeverRefusesLaw : Type 0
NeverRefusesLaw = (page : Page) (plugin : Plugin) (given : List ℕ) → IsPluginText page plugin given → RefusesNothing (page_role page) given

-- where a side waits with these bytes, or has ended, it refuses nothing of them, whatever bytes they are
abbrev pub RestsUnrefusedLaw : Type 0 → Type 0
RestsUnrefusedLaw C = (role : Role C) (got : List ℕ) (side : SideState C) → WaitsAt role got side ⊎ EndsAt role got side → RefusesNothing role got

-- what the page printed and sent by some point begins what it printed and sent where it rests
abbrev pub BeginsLaw : Type 0
BeginsLaw = (page : Page) (plugin : Plugin) (given : List ℕ) (n : ℕ) (side p : SideState PageControl) → IsPluginText page plugin given → ComesTo (page_role page) given side → IsWhole given n → HostRests page plugin n p →
    ((line : List ℕ) × (p.journal ≡ side.journal ++ line)) × ((messages : List Message) × (p.sent ≡ side.sent ++ messages))

-- few bytes are such a prefix: at most nine for each call, and at most two calls for each command beside Hello and Shutdown
abbrev pub FewBytesLaw : Type 0
FewBytesLaw = (page : Page) (plugin : Plugin) (given : List ℕ) → IsPluginText page plugin given → length given ≤ 9 * (2 * length page.commands + 2)
