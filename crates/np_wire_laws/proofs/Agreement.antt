-- A format is read as what it encodes, up to the first item that isn't of its form.
use Rattle.std.proofs.Common.{◌≡◌, inl, inr, ℕ, ◌+◌, List, [], ◌++◌, length, Ok, Err, refl, sym, ap, subst, ◌∙◌, append_assoc, arith}
use Rattle.std.proofs.lemmas.List.{length-append}
use Rattle.np_message.specs.Items.{Item, Holds, spelled}
use Rattle.np_message.specs.Formats.{Format, Says, Then}
use Rattle.np_message.specs.Decoding.{◌>>=◌, Reading, read_item, read}
use Rattle.np_message.specs.Faults.{Begins, NoneBegins, Encodes, FaultAt}
use Rattle.np_wire_laws.proofs.Items.{AreBytes, item_again, item_read, item_left}

-- what is read behind an item
abbrev behind : {A : Type 0} (item : Item) → (Holds item → Format A) → Holds item × List ℕ → Reading A
behind item next x = read (next x.0) x.1

-- what begins with an item is read by what follows it
pub begun : {A : Type 0} (item : Item) (next : Holds item → Format A) (bytes : List ℕ) (x : Holds item) (rest : List ℕ) → Begins item bytes x rest → read (Then item next) bytes ≡ read (next x) rest
begun item next bytes x rest b =
    ap (λ (l : List ℕ). read_item item l >>= behind item next) b.parts
    ∙ ap (λ (r : Reading (Holds item)). r >>= behind item next) (item_again item x rest b.is_of)

-- bytes still begin with an item if more follow
pub begins_more : (item : Item) (bytes : List ℕ) (x : Holds item) (rest more : List ℕ) → Begins item bytes x rest → Begins item (bytes ++ more) x (rest ++ more)
begins_more item bytes x rest more b =
    record { parts = ap (λ (l : List ℕ). l ++ more) b.parts ∙ append_assoc (spelled item x) rest more; is_of = b.is_of }

-- one reading has one result
same_read : {A : Type 0} (a b : A × List ℕ) (found : Reading A) → found ≡ Ok a → found ≡ Ok b → a ≡ b
same_read a b found p q = cc

-- bytes begin with one item of a form
same_cut : (item : Item) (bytes : List ℕ) (a b : Holds item × List ℕ) → Begins item bytes a.0 a.1 → Begins item bytes b.0 b.1 → a ≡ b
same_cut item bytes a b p q =
    same_read a b (read_item item bytes) (ap (read_item item) p.parts ∙ item_again item a.0 a.1 p.is_of) (ap (read_item item) q.parts ∙ item_again item b.0 b.1 q.is_of)

-- what is encoded is read again, whatever follows
pub read_again : {A : Type 0} (f : Format A) (y : A) (bytes rest : List ℕ) → Encodes f y bytes → read f (bytes ++ rest) ≡ Ok (y, rest)
read_again (Says x) y bytes rest (same, none) = rw (same, none) refl
read_again (Then item next) y bytes rest (x, behind_it, b, encodes) =
    begun item next (bytes ++ rest) x (behind_it ++ rest) (begins_more item bytes x behind_it rest b) ∙ read_again (next x) y behind_it rest encodes

-- an item was read, or none begins the bytes
pub data ItemCase (item : Item) (bytes : List ℕ) : Type 0 where
  begins : (x : Holds item) (rest : List ℕ) → Begins item bytes x rest → AreBytes rest → ItemCase item bytes
  lacks : read_item item bytes ≡ Err (length bytes) → NoneBegins item bytes → ItemCase item bytes

-- no item begins what isn't read
none_begins : (item : Item) (bytes : List ℕ) (left : ℕ) → read_item item bytes ≡ Err left → NoneBegins item bytes
none_begins item bytes left e x rest b =
    let again : read_item item bytes ≡ Ok (x, rest) = ap (read_item item) b.parts ∙ item_again item x rest b.is_of in
    absurd cc

item_case_of : (item : Item) (bytes : List ℕ) (r : Reading (Holds item)) → AreBytes bytes → read_item item bytes ≡ r → ItemCase item bytes
item_case_of item bytes (Ok x) fit e = (let t = item_read item bytes x fit e in begins x.0 x.1 t.0 t.1)
item_case_of item bytes (Err left) fit e = lacks (e ∙ ap (λ (n : ℕ). let r : Reading (Holds item) = Err n in r) (item_left item bytes left e)) (none_begins item bytes left e)

pub item_case : (item : Item) (bytes : List ℕ) → AreBytes bytes → ItemCase item bytes
item_case item bytes fit = item_case_of item bytes (read_item item bytes) fit refl

-- what a reading of the format gives: the bytes encode what was read, or have a fault at the place where it stops
abbrev pub Agrees : {A : Type 0} → Format A → List ℕ → Reading A → Type 0
Agrees f bytes (Ok y) = (items : List ℕ) × (bytes ≡ items ++ y.1) × Encodes f y.0 items
Agrees f bytes (Err left) = (passed : ℕ) × FaultAt f bytes passed × (length bytes ≡ passed + left)

-- a reading behind an item agrees with the format that begins with it
agrees_on : {A : Type 0} (item : Item) (next : Holds item → Format A) (bytes : List ℕ) (x : Holds item) (rest : List ℕ) (r : Reading A) → Begins item bytes x rest → Agrees (next x) rest r → Agrees (Then item next) bytes r
agrees_on item next bytes x rest (Ok y) b (items, parts, encodes) = (
  spelled item x ++ items,
  b.parts ∙ ap (λ (l : List ℕ). spelled item x ++ l) parts ∙ sym (append_assoc (spelled item x) items y.1),
  (x, items, record { parts = refl; is_of = b.is_of }, encodes),
)
agrees_on item next bytes x rest (Err left) b (passed, is, long) = (
  length (spelled item x) + passed,
  inr (x, rest, passed, b, is, refl),
  omega (arith, ap length b.parts, length-append (spelled item x) rest, long),
)

then_agrees : {A : Type 0} (item : Item) (next : Holds item → Format A) (bytes : List ℕ) → ItemCase item bytes → ((x : Holds item) (rest : List ℕ) → AreBytes rest → Agrees (next x) rest (read (next x) rest)) → Agrees (Then item next) bytes (read (Then item next) bytes)
then_agrees {A = A} item next bytes (begins x rest b fit) others =
    subst (λ (r : Reading A). Agrees (Then item next) bytes r) (sym (begun item next bytes x rest b)) (agrees_on item next bytes x rest (read (next x) rest) b (others x rest fit))
then_agrees {A = A} item next bytes (lacks e none) others =
    subst (λ (r : Reading A). Agrees (Then item next) bytes r) (sym (ap (λ (r : Reading (Holds item)). r >>= behind item next) e)) (0, inl (none, refl), omega arith)

pub read_agrees : {A : Type 0} (f : Format A) (bytes : List ℕ) → AreBytes bytes → Agrees f bytes (read f bytes)
read_agrees (Says x) bytes fit = ([], refl, (refl, refl))
read_agrees (Then item next) bytes fit = then_agrees item next bytes (item_case item bytes fit) (λ x rest behind_fit. read_agrees (next x) rest behind_fit)

-- ---- one fault

-- a fault is where the reading stops
pub fault_read : {A : Type 0} (f : Format A) (bytes : List ℕ) (at : ℕ) → AreBytes bytes → FaultAt f bytes at → (left : ℕ) × (read f bytes ≡ Err left) × (length bytes ≡ at + left)
fault_read (Says x) bytes at fit h = absurd h
fault_read (Then item next) bytes at fit (inl (none, here)) = stops_here (item_case item bytes fit)
  where
    stops_here : ItemCase item bytes → (left : ℕ) × (read (Then item next) bytes ≡ Err left) × (length bytes ≡ at + left)
    stops_here (begins x rest b behind_fit) = absurd (none x rest b)
    stops_here (lacks e nothing) = (length bytes, ap (λ (r : Reading (Holds item)). r >>= behind item next) e, omega (arith, here))
fault_read (Then item next) bytes at fit (inr (x, rest, further, b, is, place)) =
    let read_x = item_read item bytes (x, rest) fit (ap (read_item item) b.parts ∙ item_again item x rest b.is_of) in
    let t = fault_read (next x) rest further read_x.1 is in
    (t.0, begun item next bytes x rest b ∙ t.1, omega (arith, place, ap length b.parts, length-append (spelled item x) rest, t.2))

-- a format has one fault in the bytes
pub one_fault : {A : Type 0} (f : Format A) (bytes : List ℕ) (j k : ℕ) → FaultAt f bytes j → FaultAt f bytes k → j ≡ k
one_fault (Says x) bytes j k p q = absurd p
one_fault (Then item next) bytes j k (inl p) (inl q) = p.1 ∙ sym q.1
one_fault (Then item next) bytes j k (inl p) (inr (y, s, n, q, m, e)) = absurd (p.0 y s q)
one_fault (Then item next) bytes j k (inr (x, r, m, p, n, d)) (inl q) = absurd (q.0 x r p)
one_fault (Then item next) bytes j k (inr (x, r, m, p, first, j-is)) (inr (y, s, n, q, second, k-is)) =
    let same = same_cut item bytes (x, r) (y, s) p q in
    let moved : FaultAt (next y) s m = subst (λ (c : Holds item × List ℕ). FaultAt (next c.0) c.1 m) same first in
    j-is ∙ ap (λ (c : Holds item × List ℕ). length (spelled item c.0) + m) same ∙ ap (λ (i : ℕ). length (spelled item y) + i) (one_fault (next y) s m n moved second) ∙ sym k-is

-- bytes that begin with what the format encodes have none
pub encoded_no_fault : {A : Type 0} (f : Format A) (y : A) (items rest : List ℕ) (k : ℕ) → Encodes f y items → FaultAt f (items ++ rest) k → ⊥
encoded_no_fault (Says x) y items rest k p q = q
encoded_no_fault (Then item next) y items rest k (x, r, p, m) (inl q) = q.0 x (r ++ rest) (begins_more item items x r rest p)
encoded_no_fault (Then item next) y items rest k (x, r, p, m) (inr (z, s, n, q, further, k-is)) =
    let same = same_cut item (items ++ rest) (z, s) (x, r ++ rest) q (begins_more item items x r rest p) in
    encoded_no_fault (next x) y r rest n m (subst (λ (c : Holds item × List ℕ). FaultAt (next c.0) c.1 n) same further)

-- of two encodings that begin the same bytes, both say the same
pub one_encoding : {A : Type 0} (f : Format A) (y z : A) (a b rest other : List ℕ) → Encodes f y a → Encodes f z b → a ++ rest ≡ b ++ other → (y ≡ z) × (rest ≡ other)
one_encoding {A = A} f y z a b rest other p q e =
    let same = same_read (y, rest) (z, other) (read f (b ++ other)) (ap (read f) (sym e) ∙ read_again f y a rest p) (read_again f z b other q) in
    (ap (λ (c : A × List ℕ). c.0) same, ap (λ (c : A × List ℕ). c.1) same)
