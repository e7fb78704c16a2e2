-- Which lines may follow which: the words of each place, the limits, and what is declared only once. (This project's own.)
use Rattle.std.specs.Prelude.{◌≡◌, ℕ, ◌+◌, ◌*◌, List, [], ◌∷◌, ◌++◌, length, take, Bool, true, false, if◌then◌else◌, nat_le, ◌&&◌, bytes_eq, codes}
use Rattle.std.specs.List.{list_any}
use Rattle.np_values.specs.declared.name.Side.{Side}
use Rattle.np_script_grammar.specs.declared.line.Field.{Field}
use Rattle.np_script_grammar.specs.declared.line.Field.TheVariants as fields
use Rattle.np_script_grammar.specs.declared.place.Place.{Place}
use Rattle.np_script_grammar.specs.declared.place.Place.TheVariants.{Head, Top, Class, MemberBody, Body, Commands}
use Rattle.np_script_grammar.specs.Forms.{Line, line_words, spaced, IsOf}
use Rattle.np_script_grammar.specs.Tables.{table_at}
use Rattle.np_script_grammar.specs.Scripts.{place_after, is_member_word}

-- ---- how much there is

-- this many classes, members of the class that was opened last, actions of the body that was opened last, tasks, `create` lines, and bytes of resources
pub record Counts : Type 0 where
  pub classes : ℕ
  pub members : ℕ
  pub actions : ℕ
  pub tasks : ℕ
  pub creates : ℕ
  pub bytes : ℕ

abbrev pub no_counts : Counts
no_counts = record { classes = 0; members = 0; actions = 0; tasks = 0; creates = 0; bytes = 0 }

-- the bytes of a resource: its piece, that many times
abbrev pub resource_bytes : List Field → ℕ
resource_bytes (url ∷ mime ∷ fields.Number times ∷ fields.Text piece ∷ []) = times * length piece
resource_bytes fields = 0

-- with this line at the top: only a class, a task and a resource have a limit, and a body begins without actions
abbrev pub counts_at_top : Counts → Line → Counts
counts_at_top c line =
    if bytes_eq line.0 (codes "class") then record c { classes = c.classes + 1; members = 0 }
    else if bytes_eq line.0 (codes "task") then record c { tasks = c.tasks + 1; actions = 0 }
    else if bytes_eq line.0 (codes "handler") then record c { actions = 0 }
    else if bytes_eq line.0 (codes "resource") then record c { bytes = c.bytes + resource_bytes line.1 }
    else c

-- with this line at a place; `data` isn't counted among the members, nor `end` among the actions
abbrev pub counts_after : Place → Counts → Line → Counts
counts_after Head c line = c
counts_after Top c line = counts_at_top c line
counts_after Class c line = if is_member_word line.0 then record c { members = c.members + 1; actions = 0 } else c
counts_after MemberBody c line = if bytes_eq line.0 (codes "end") then c else record c { actions = c.actions + 1 }
counts_after Body c line = if bytes_eq line.0 (codes "end") then c else record c { actions = c.actions + 1 }
counts_after Commands c line = if bytes_eq line.0 (codes "create") then record c { creates = c.creates + 1 } else c

abbrev pub are_few : Counts → Bool
are_few c =
    nat_le c.classes 64 && (nat_le c.members 64 && (nat_le c.actions 256 && (nat_le c.tasks 32 && (nat_le c.creates 255 && nat_le c.bytes 16777216))))

-- ---- what is there already

-- What a line declares, by its first two words: a class, resource, handler or task of that name, a member of that kind and identifier, or `data`. Spellings are unique, so equal words are equal names.
abbrev pub declared_by : Line → List ℕ
declared_by line = spaced (take 2 (line_words line))

-- the line declares one of these again
abbrev pub is_among : List (List ℕ) → Line → Bool
is_among declared line = list_any (bytes_eq (declared_by line)) declared

-- ---- the order of lines

-- Where a script stands: its place, its counts, and what was declared at the top and in the class that was opened last.
pub record Standing : Type 0 where
  pub place : Place
  pub counts : Counts
  pub at_top : List (List ℕ)
  pub in_class : List (List ℕ)

abbrev pub at_first : Standing
at_first = record { place = Head; counts = no_counts; at_top = []; in_class = [] }

abbrev pub declares_twice : Standing → Line → Bool
declares_twice s line = declared_at s.place
  where
    declared_at : Place → Bool
    declared_at Head = false
    declared_at Top = is_among s.at_top line
    declared_at Class = is_among s.in_class line
    declared_at MemberBody = false
    declared_at Body = false
    declared_at Commands = false

abbrev pub top_after : Place → List (List ℕ) → Line → List (List ℕ)
top_after Top declared line = declared ++ declared_by line ∷ []
top_after place declared line = declared

-- a class begins without declarations
abbrev pub class_after : Place → List (List ℕ) → Line → List (List ℕ)
class_after Top declared line = []
class_after Class declared line = declared ++ declared_by line ∷ []
class_after place declared line = declared

abbrev pub standing_after : Standing → Line → Standing
standing_after s line = record {
  place = place_after s.place line.0;
  counts = counts_after s.place s.counts line;
  at_top = top_after s.place s.at_top line;
  in_class = class_after s.place s.in_class line;
}

-- the line may come next: it is one of the table of its place, no limit is passed, and it declares nothing twice
pub record MayFollow (side : Side) (s : Standing) (line : Line) : Type 0 where
  pub listed : IsOf (table_at side s.place) line
  pub few : are_few (counts_after s.place s.counts line) ≡ true
  pub new : declares_twice s line ≡ false

-- each of the lines may come where it stands
abbrev pub AreInOrder : Side → Standing → List Line → Type 0
AreInOrder side s [] = Unit {0}
AreInOrder side s (line ∷ lines) = MayFollow side s line × AreInOrder side (standing_after s line) lines
