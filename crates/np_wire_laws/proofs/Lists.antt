-- Lists of items: what their format encodes, and back.
use Rattle.std.proofs.Common.{◌≡◌, ℕ, zero, suc, List, [], ◌∷◌, ◌++◌, length, Option, Some, refl, sym, ap, subst, ◌∙◌, append_assoc, arith}
use Rattle.std.specs.List.{flat_map}
use Rattle.std.proofs.lemmas.List.{append-nil}
use Rattle.np_values.specs.declared.range.Range.{Range}
use Rattle.np_proxy_release.specs.declared.release.Release.{Release}
use Rattle.np_proxy_release.specs.Release.{AreRisingFrom, AreTypedReleases}
use Rattle.np_message.specs.declared.payload.Payload.{Payload}
use Rattle.np_message.specs.declared.depth.Depth.{Depth}
use Rattle.np_message.specs.Message.{Message}
use Rattle.np_message.specs.Encoding.{int_item, number_item, range_items, release_item}
use Rattle.np_message.specs.Rules.{Each, IsTypedRange}
use Rattle.np_message.specs.Items.{Item, Holds, spelled, IsOf}
use Rattle.np_message.specs.Formats.{Format, Says, Then, many, many_ranges, many_releases, carried}
use Rattle.np_message.specs.Faults.{Begins, Encodes}

-- ---- one item

-- the bytes of an item and what follows it
pub first : {item : Item} {x : Holds item} {rest : List ℕ} → IsOf item x → Begins item (spelled item x ++ rest) x rest
first h = record { parts = refl; is_of = h }

-- the bytes of an item, behind which nothing follows
pub last : {item : Item} {x : Holds item} → IsOf item x → Begins item (spelled item x) x []
last {item = item} {x = x} h = record { parts = sym (append-nil (spelled item x)); is_of = h }

-- what follows an item is this
pub on : {item : Item} {bytes : List ℕ} {x : Holds item} {rest other : List ℕ} → Begins item bytes x rest → rest ≡ other → bytes ≡ spelled item x ++ other
on {item = item} {x = x} b e = b.parts ∙ ap (λ (l : List ℕ). spelled item x ++ l) e

-- nothing follows
pub ended : (items rest bytes : List ℕ) → bytes ≡ items ++ rest → rest ≡ [] → bytes ≡ items
ended items rest bytes p none = p ∙ ap (λ (l : List ℕ). items ++ l) none ∙ append-nil items

-- what two items in turn are
joined : (a b rest bytes behind : List ℕ) → bytes ≡ a ++ behind → behind ≡ b ++ rest → bytes ≡ (a ++ b) ++ rest
joined a b rest bytes behind p q = p ∙ ap (λ (l : List ℕ). a ++ l) q ∙ sym (append_assoc a b rest)

-- ---- items of one form

pub record HasMany {A : Type 0} (item : Item) (count : ℕ) (next : List (Holds item) → Format A) (y : A) (bytes : List ℕ) : Type 0 where
  pub xs : List (Holds item)
  pub rest : List ℕ
  pub parts : bytes ≡ flat_map (spelled item) xs ++ rest
  pub counted : length xs ≡ count
  pub each : Each (IsOf item) xs
  pub encodes : Encodes (next xs) y rest

pub many_of : {A : Type 0} (item : Item) (n : ℕ) (next : List (Holds item) → Format A) (y : A) (bytes : List ℕ) → Encodes (many item n next) y bytes → HasMany item n next y bytes
many_of item zero next y bytes h = record { xs = []; rest = bytes; parts = refl; counted = refl; each = tt; encodes = h }
many_of item (suc n) next y bytes (x, behind, b, h) =
    let t = many_of item n (λ xs. next (x ∷ xs)) y behind h in
    record {
      xs = x ∷ t.xs;
      rest = t.rest;
      parts = joined (spelled item x) (flat_map (spelled item) t.xs) t.rest bytes behind b.parts t.parts;
      counted = ap suc t.counted;
      each = (b.is_of, t.each);
      encodes = t.encodes;
    }

pub many_encodes : {A : Type 0} (item : Item) (xs : List (Holds item)) (next : List (Holds item) → Format A) (y : A) (rest : List ℕ) → Each (IsOf item) xs → Encodes (next xs) y rest → Encodes (many item (length xs) next) y (flat_map (spelled item) xs ++ rest)
many_encodes item [] next y rest each h = h
many_encodes item (x ∷ xs) next y rest each h =
    (x, flat_map (spelled item) xs ++ rest, record { parts = append_assoc (spelled item x) (flat_map (spelled item) xs) rest; is_of = each.0 }, many_encodes item xs (λ others. next (x ∷ others)) y rest each.1 h)

-- nothing follows them
pub many_last : {A : Type 0} (item : Item) (xs : List (Holds item)) (next : List (Holds item) → Format A) (y : A) → Each (IsOf item) xs → Encodes (next xs) y [] → Encodes (many item (length xs) next) y (flat_map (spelled item) xs)
many_last item xs next y each h = subst (λ (l : List ℕ). Encodes (many item (length xs) next) y l) (append-nil (flat_map (spelled item) xs)) (many_encodes item xs next y [] each h)

-- ---- ranges

pub record HasRanges {A : Type 0} (count : ℕ) (next : List Range → Format A) (y : A) (bytes : List ℕ) : Type 0 where
  pub ranges : List Range
  pub rest : List ℕ
  pub parts : bytes ≡ flat_map range_items ranges ++ rest
  pub counted : length ranges ≡ count
  pub each : Each IsTypedRange ranges
  pub encodes : Encodes (next ranges) y rest

pub ranges_of : {A : Type 0} (n : ℕ) (next : List Range → Format A) (y : A) (bytes : List ℕ) → Encodes (many_ranges n next) y bytes → HasRanges n next y bytes
ranges_of zero next y bytes h = record { ranges = []; rest = bytes; parts = refl; counted = refl; each = tt; encodes = h }
ranges_of (suc n) next y bytes (offset, sized, b, (size, behind, c, h)) =
    let range : Range = record { offset = offset; length = size } in
    let t = ranges_of n (λ ranges. next (range ∷ ranges)) y behind h in
    record {
      ranges = range ∷ t.ranges;
      rest = t.rest;
      parts = joined (range_items range) (flat_map range_items t.ranges) t.rest bytes behind (b.parts ∙ ap (λ (l : List ℕ). int_item offset ++ l) c.parts ∙ sym (append_assoc (int_item offset) (number_item size) behind)) t.parts;
      counted = ap suc t.counted;
      each = ((b.is_of, c.is_of.1), t.each);
      encodes = t.encodes;
    }

pub ranges_encode : {A : Type 0} (ranges : List Range) (next : List Range → Format A) (y : A) (rest : List ℕ) → Each IsTypedRange ranges → Encodes (next ranges) y rest → Encodes (many_ranges (length ranges) next) y (flat_map range_items ranges ++ rest)
ranges_encode [] next y rest each h = h
ranges_encode (range ∷ ranges) next y rest each h =
    let behind = flat_map range_items ranges ++ rest in (
      range.offset,
      number_item range.length ++ behind,
      record { parts = append_assoc (range_items range) (flat_map range_items ranges) rest ∙ append_assoc (int_item range.offset) (number_item range.length) behind; is_of = each.0.0 },
      (range.length, behind, record { parts = refl; is_of = (omega arith, each.0.1) }, ranges_encode ranges (λ others. next (range ∷ others)) y rest each.1 h),
    )

-- nothing follows them
pub ranges_last : {A : Type 0} (ranges : List Range) (next : List Range → Format A) (y : A) → Each IsTypedRange ranges → Encodes (next ranges) y [] → Encodes (many_ranges (length ranges) next) y (flat_map range_items ranges)
ranges_last ranges next y each h = subst (λ (l : List ℕ). Encodes (many_ranges (length ranges) next) y l) (append-nil (flat_map range_items ranges)) (ranges_encode ranges next y [] each h)

-- ---- releases

pub record HasReleases {A : Type 0} (before : Option Release) (count : ℕ) (next : List Release → Format A) (y : A) (bytes : List ℕ) : Type 0 where
  pub releases : List Release
  pub rest : List ℕ
  pub parts : bytes ≡ flat_map release_item releases ++ rest
  pub counted : length releases ≡ count
  pub rising : AreRisingFrom before releases
  pub typed : AreTypedReleases releases
  pub encodes : Encodes (next releases) y rest

pub releases_of : {A : Type 0} (before : Option Release) (n : ℕ) (next : List Release → Format A) (y : A) (bytes : List ℕ) → Encodes (many_releases before n next) y bytes → HasReleases before n next y bytes
releases_of before zero next y bytes h = record { releases = []; rest = bytes; parts = refl; counted = refl; rising = tt; typed = tt; encodes = h }
releases_of before (suc n) next y bytes (r, behind, b, h) =
    let t = releases_of (Some r) n (λ releases. next (r ∷ releases)) y behind h in
    record {
      releases = r ∷ t.releases;
      rest = t.rest;
      parts = joined (release_item r) (flat_map release_item t.releases) t.rest bytes behind b.parts t.parts;
      counted = ap suc t.counted;
      rising = (b.is_of.0, b.is_of.2, t.rising);
      typed = (b.is_of.1, t.typed);
      encodes = t.encodes;
    }

pub releases_encode : {A : Type 0} (before : Option Release) (releases : List Release) (next : List Release → Format A) (y : A) (rest : List ℕ) → AreRisingFrom before releases → AreTypedReleases releases → Encodes (next releases) y rest → Encodes (many_releases before (length releases) next) y (flat_map release_item releases ++ rest)
releases_encode before [] next y rest rising typed h = h
releases_encode before (r ∷ releases) next y rest rising typed h = (
  r,
  flat_map release_item releases ++ rest,
  record { parts = append_assoc (release_item r) (flat_map release_item releases) rest; is_of = (rising.0, typed.0, rising.1) },
  releases_encode (Some r) releases (λ others. next (r ∷ others)) y rest rising.2 typed.1 h,
)

-- ---- a payload in its message

pub record IsCarried (depth : Depth) (releases : List Release) (f : Format Payload) (m : Message) (bytes : List ℕ) : Type 0 where
  pub body : Payload
  pub message : record { depth = depth; releases = releases; body = body } ≡ m
  pub encodes : Encodes f body bytes

pub carried_of : (depth : Depth) (releases : List Release) (f : Format Payload) (m : Message) (bytes : List ℕ) → Encodes (carried depth releases f) m bytes → IsCarried depth releases f m bytes
carried_of depth releases (Says body) m bytes (same, none) = record { body = body; message = same; encodes = (refl, none) }
carried_of depth releases (Then item next) m bytes (x, rest, b, h) =
    let t = carried_of depth releases (next x) m rest h in
    record { body = t.body; message = t.message; encodes = (x, rest, b, t.encodes) }

pub carried_encodes : (depth : Depth) (releases : List Release) (f : Format Payload) (p : Payload) (bytes : List ℕ) → Encodes f p bytes → Encodes (carried depth releases f) (record { depth = depth; releases = releases; body = p }) bytes
carried_encodes depth releases (Says body) p bytes (same, none) = (ap (λ (q : Payload). let m : Message = record { depth = depth; releases = releases; body = q } in m) same, none)
carried_encodes depth releases (Then item next) p bytes (x, rest, b, h) = (x, rest, b, carried_encodes depth releases (next x) p rest h)
