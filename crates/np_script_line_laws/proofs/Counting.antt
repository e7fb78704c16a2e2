-- How much there is, part by part.
use Rattle.std.proofs.Common.{◌≡◌, ℕ, ◌+◌, ◌≤◌, Bool, true, false, if◌then◌else◌, nat_le, arith}
use Rattle.std.specs.Prelude.{codes, bytes_eq}
use Rattle.std.proofs.lemmas.Bool.{and_parts, and_from}
use Rattle.std.proofs.lemmas.Bool.Decides.{nat_tests}
use Rattle.np_script_grammar.specs.Forms.{Line}
use Rattle.np_script_grammar.specs.Order.{Counts, no_counts, are_few, counts_at_top, resource_bytes}

-- each count is within its limit
pub record Few (c : Counts) : Type 0 where
  pub classes : c.classes ≤ 64
  pub members : c.members ≤ 64
  pub actions : c.actions ≤ 256
  pub tasks : c.tasks ≤ 32
  pub creates : c.creates ≤ 255
  pub bytes : c.bytes ≤ 16777216

is_within : (n limit : ℕ) → nat_le n limit ≡ true → n ≤ limit
is_within n limit e = grind (arith, nat_tests)

passes : (n limit : ℕ) → n ≤ limit → nat_le n limit ≡ true
passes n limit e = grind (arith, nat_tests)

pub few_parts : (c : Counts) → are_few c ≡ true → Few c
few_parts c e =
    let a = and_parts (nat_le c.classes 64) _ e in
    let b = and_parts (nat_le c.members 64) _ a.1 in
    let d = and_parts (nat_le c.actions 256) _ b.1 in
    let f = and_parts (nat_le c.tasks 32) _ d.1 in
    let g = and_parts (nat_le c.creates 255) _ f.1 in
    record {
      classes = is_within c.classes 64 a.0;
      members = is_within c.members 64 b.0;
      actions = is_within c.actions 256 d.0;
      tasks = is_within c.tasks 32 f.0;
      creates = is_within c.creates 255 g.0;
      bytes = is_within c.bytes 16777216 g.1;
    }

pub few_whole : (c : Counts) → Few c → are_few c ≡ true
few_whole c f =
    and_from (nat_le c.classes 64) _ (passes c.classes 64 f.classes)
    (and_from (nat_le c.members 64) _ (passes c.members 64 f.members)
    (and_from (nat_le c.actions 256) _ (passes c.actions 256 f.actions)
    (and_from (nat_le c.tasks 32) _ (passes c.tasks 32 f.tasks)
    (and_from (nat_le c.creates 255) _ (passes c.creates 255 f.creates) (passes c.bytes 16777216 f.bytes)))))

-- what a whole script has of it: the second has no more than the first
pub record IsLower (c other : Counts) : Type 0 where
  pub classes : other.classes ≤ c.classes
  pub tasks : other.tasks ≤ c.tasks
  pub creates : other.creates ≤ c.creates
  pub bytes : other.bytes ≤ c.bytes

-- and the third has as much as both others
pub record IsSum (c more whole : Counts) : Type 0 where
  pub classes : whole.classes ≡ c.classes + more.classes
  pub tasks : whole.tasks ≡ c.tasks + more.tasks
  pub creates : whole.creates ≡ c.creates + more.creates
  pub bytes : whole.bytes ≡ c.bytes + more.bytes

-- ---- with a line at the top

-- by the tests of its word
abbrev pub top_counts : Bool → Bool → Bool → Bool → ℕ → Counts → Counts
top_counts class task handler resource size c =
    if class then record c { classes = c.classes + 1; members = 0 }
    else if task then record c { tasks = c.tasks + 1; actions = 0 }
    else if handler then record c { actions = 0 }
    else if resource then record c { bytes = c.bytes + size }
    else c

adds_by : (class task handler resource : Bool) (size : ℕ) (c : Counts) → IsSum c (top_counts class task handler resource size no_counts) (top_counts class task handler resource size c)
adds_by true task handler resource size c = record { classes = omega arith; tasks = omega arith; creates = omega arith; bytes = omega arith }
adds_by false true handler resource size c = record { classes = omega arith; tasks = omega arith; creates = omega arith; bytes = omega arith }
adds_by false false true resource size c = record { classes = omega arith; tasks = omega arith; creates = omega arith; bytes = omega arith }
adds_by false false false true size c = record { classes = omega arith; tasks = omega arith; creates = omega arith; bytes = omega arith }
adds_by false false false false size c = record { classes = omega arith; tasks = omega arith; creates = omega arith; bytes = omega arith }

-- a line adds as much, whatever there was before
pub adds : (line : Line) (c : Counts) → IsSum c (counts_at_top no_counts line) (counts_at_top c line)
adds line c = adds_by (bytes_eq line.0 (codes "class")) (bytes_eq line.0 (codes "task")) (bytes_eq line.0 (codes "handler")) (bytes_eq line.0 (codes "resource")) (resource_bytes line.1) c

stays_by : (class task handler resource : Bool) (size : ℕ) (c : Counts) → Few c
    → ((top_counts class task handler resource size c).members ≤ 64) × ((top_counts class task handler resource size c).actions ≤ 256)
stays_by true task handler resource size c f = (omega arith, f.actions)
stays_by false true handler resource size c f = (f.members, omega arith)
stays_by false false true resource size c f = (f.members, omega arith)
stays_by false false false true size c f = (f.members, f.actions)
stays_by false false false false size c f = (f.members, f.actions)

-- it adds no member and no action
pub stays_small : (line : Line) (c : Counts) → Few c → ((counts_at_top c line).members ≤ 64) × ((counts_at_top c line).actions ≤ 256)
stays_small line c f =
    stays_by (bytes_eq line.0 (codes "class")) (bytes_eq line.0 (codes "task")) (bytes_eq line.0 (codes "handler")) (bytes_eq line.0 (codes "resource")) (resource_bytes line.1) c f

pub lower_top : (line : Line) (c other : Counts) → IsLower c other → IsLower (counts_at_top c line) (counts_at_top other line)
lower_top line c other l =
    let a = adds line c in
    let b = adds line other in
    record { classes = omega arith; tasks = omega arith; creates = omega arith; bytes = omega arith }

pub few_top : (line : Line) (c other : Counts) → IsLower (counts_at_top c line) (counts_at_top other line) → Few (counts_at_top c line) → Few other → Few (counts_at_top other line)
few_top line c other l f g =
    let small = stays_small line other g in
    record { classes = omega arith; members = small.0; actions = small.1; tasks = omega arith; creates = omega arith; bytes = omega arith }
