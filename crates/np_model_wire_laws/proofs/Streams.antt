-- Bytes are taken apart into messages in one way.
use Rattle.std.proofs.Common.{◌≡◌, ◌≢◌, ℕ, ◌<◌, ◌≤◌, List, [], ◌∷◌, ◌++◌, length, refl, sym, ap, ◌∙◌, append_assoc, arith, ◌⊎◌, inl, inr, ⊎_elim}
use Rattle.std.proofs.lemmas.Bool.{cases_lt}
use Rattle.std.proofs.lemmas.List.{append-nil, length-append, take-append-le}
use Rattle.std.specs.Int.{w32, from_be_bytes}
use Rattle.np_message.specs.Message.{Message}
use Rattle.np_message.specs.Encoding.{encoding, encodings}
use Rattle.np_message.specs.Rules.{KeepsFormat, IsTyped}
use Rattle.np_message.specs.Decoding.{Partial, Whole, front}
use Rattle.np_wire_laws.specs.Laws.{EncodedIsReadAgain, NoEncodingBeginsAnother, WaitsExactly, BeginningsAreAwaited, IsCutShort, length_of}
use Rattle.np_message.specs.Rules.{AreMessages}

-- ---- the laws of the wire format that are used

pub record Wire : Type 0 where
  pub again : EncodedIsReadAgain
  pub apart : NoEncodingBeginsAnother

pub record Waiting : Type 0 where
  pub exact : WaitsExactly
  pub beginning : BeginningsAreAwaited

-- ---- plain lists

nil-left : {A : Type 0} (a b : List A) → a ++ b ≡ [] → a ≡ []
nil-left [] b e = refl
nil-left (x ∷ a) b e = cc

-- the shorter of two beginnings begins the longer one
begins-longer : {A : Type 0} (a x b y : List A) → a ++ x ≡ b ++ y → length a ≤ length b → (z : List A) × (b ≡ a ++ z)
begins-longer [] x b y e h = (b, refl)
begins-longer (c ∷ a) x [] y e h = absurd (omega (arith, h))
begins-longer (c ∷ a) x (d ∷ b) y e h =
    let same : c ≡ d = cc in
    let rest : a ++ x ≡ b ++ y = cc in
    let le : length a ≤ length b = omega (arith, h) in
    let r = begins-longer a x b y rest le in
    (r.0, ap (λ l. d ∷ l) r.1 ∙ ap (λ q. q ∷ (a ++ r.0)) (sym same))

-- ---- messages that begin others

-- the first messages, and the further ones
pub record Continues (few all : List Message) (left rest : List ℕ) : Type 0 where
  pub more : List Message
  pub is : all ≡ few ++ more
  pub bytes : left ≡ encodings more ++ rest
  pub keep : AreMessages more

-- Messages whose bytes begin those of others, behind which less than a message stands, begin these.
pub continues : Wire → (at : ℕ) (few all : List Message) (left rest : List ℕ) → AreMessages few → AreMessages all → front at rest ≡ Partial → encodings few ++ left ≡ encodings all ++ rest → Continues few all left rest
continues w at [] all left rest f a p e = record { more = all; is = refl; bytes = e; keep = a }
continues w at (m ∷ few) [] left rest f a p e =
    let whole = w.again at m (encodings few ++ left) f.0.0 f.0.1 in
    let same : encoding m ++ (encodings few ++ left) ≡ rest = sym (append_assoc (encoding m) (encodings few) left) ∙ e in
    let n : Whole m (encodings few ++ left) ≡ Partial = sym whole ∙ ap (λ l. front at l) same ∙ p in
    absurd cc
continues w at (m ∷ few) (n ∷ all) left rest f a p e =
    let both : encoding m ++ (encodings few ++ left) ≡ encoding n ++ (encodings all ++ rest) = sym (append_assoc (encoding m) (encodings few) left) ∙ e ∙ append_assoc (encoding n) (encodings all) rest in
    let parts = w.apart m n (encodings few ++ left) (encodings all ++ rest) f.0.0 f.0.1 a.0.0 a.0.1 both in
    let r = continues w at few all left rest f.1 a.1 p parts.1 in
    record { more = r.more; is = ap (λ l. n ∷ l) r.is ∙ ap (λ x. x ∷ (few ++ r.more)) (sym parts.0); bytes = r.bytes; keep = r.keep }

-- ---- what stands at the front of a prefix of messages

pub empty-waits : WaitsExactly → (at : ℕ) (bytes more : List ℕ) → bytes ++ more ≡ [] → front at bytes ≡ Partial
empty-waits w at bytes more e =
    let nil : bytes ≡ [] = nil-left bytes more e in
    let few : length bytes < 4 = omega (arith, ap length nil) in
    (w at bytes).1 (inl few)

-- messages whose bytes begin the given ones begin those that are sent, whose bytes the given ones begin
pub begins-text : Wire → WaitsExactly → (messages sent : List Message) (given left rest : List ℕ) → AreMessages messages → AreMessages sent → given ≡ encodings messages ++ left → encodings sent ≡ given ++ rest → Continues messages sent (left ++ rest) []
begins-text w v messages sent given left rest are all is text =
    let nothing : [] ++ [] ≡ [] = refl in
    let same : encodings messages ++ (left ++ rest) ≡ encodings sent ++ [] = sym (append_assoc (encodings messages) left rest) ∙ ap (λ l. l ++ rest) (sym is) ∙ sym text ∙ sym (append-nil (encodings sent)) in
    continues w 0 messages sent (left ++ rest) [] are all (empty-waits v 0 [] [] nothing) same

-- bytes that begin a message and others are cut short, or the message stands at their front
pub begun-or-whole : Wire → Waiting → (bytes more rest : List ℕ) (m : Message) → KeepsFormat m → IsTyped m → bytes ++ more ≡ encoding m ++ rest → ((at : ℕ) → front at bytes ≡ Partial) ⊎ ((behind : List ℕ) × (bytes ≡ encoding m ++ behind))
begun-or-whole w v bytes more rest m keeps typed e = ⊎_elim cut whole (cases_lt (length bytes) (length (encoding m)))
  where
    cut : length bytes < length (encoding m) → ((at : ℕ) → front at bytes ≡ Partial) ⊎ ((behind : List ℕ) × (bytes ≡ encoding m ++ behind))
    cut lt =
        let le : length bytes ≤ length (encoding m) = omega (arith, lt) in
        let z = begins-longer bytes more (encoding m) rest e le in
        let lengths = ap length z.1 in
        let some : z.0 ≢ [] = λ nil. let none = ap length nil in omega (arith, lt, lengths, none, length-append bytes z.0) in
        inl (λ at. v.beginning at m bytes z.0 keeps typed (sym z.1) some)

    whole : length (encoding m) ≤ length bytes → ((at : ℕ) → front at bytes ≡ Partial) ⊎ ((behind : List ℕ) × (bytes ≡ encoding m ++ behind))
    whole le = inr (begins-longer (encoding m) rest bytes more (sym e) le)

pub whole-or-waits : Wire → Waiting → (at : ℕ) (bytes more rest : List ℕ) (m : Message) → KeepsFormat m → IsTyped m → bytes ++ more ≡ encoding m ++ rest → (front at bytes ≡ Partial) ⊎ ((behind : List ℕ) × (front at bytes ≡ Whole m behind))
whole-or-waits w v at bytes more rest m keeps typed e =
    ⊎_elim (λ (partial : (at : ℕ) → front at bytes ≡ Partial). inl (partial at))
    (λ (x : (behind : List ℕ) × (bytes ≡ encoding m ++ behind)). inr (x.0, ap (λ l. front at l) x.1 ∙ w.again at m x.0 keeps typed))
    (begun-or-whole w v bytes more rest m keeps typed e)

-- the first of these messages stands at the front
pub record HasFirst (at : ℕ) (bytes : List ℕ) (messages : List Message) : Type 0 where
  pub message : Message
  pub later : List Message
  pub are : messages ≡ message ∷ later
  pub behind : List ℕ
  pub seen : front at bytes ≡ Whole message behind

pub first-or-waits : Wire → Waiting → (at : ℕ) (bytes more : List ℕ) (messages : List Message) → AreMessages messages → bytes ++ more ≡ encodings messages → (front at bytes ≡ Partial) ⊎ HasFirst at bytes messages
first-or-waits w v at bytes more [] a e = inl (empty-waits v.exact at bytes more e)
first-or-waits w v at bytes more (m ∷ messages) a e =
    ⊎_elim (λ partial. inl partial)
    (λ (x : (behind : List ℕ) × (front at bytes ≡ Whole m behind)). inr (record { message = m; later = messages; are = refl; behind = x.0; seen = x.1 }))
    (whole-or-waits w v at bytes more (encodings messages) m a.0.0 a.0.1 e)

-- of two lists of messages whose bytes begin the same bytes one begins the other
pub one-begins : Wire → (a b : List Message) (x y : List ℕ) → AreMessages a → AreMessages b → encodings a ++ x ≡ encodings b ++ y → Continues a b x y ⊎ Continues b a y x
one-begins w [] b x y ka kb e = inl (record { more = b; is = refl; bytes = e; keep = kb })
one-begins w (m ∷ a) [] x y ka kb e = inr (record { more = m ∷ a; is = refl; bytes = sym e; keep = ka })
one-begins w (m ∷ a) (n ∷ b) x y ka kb e =
    let both : encoding m ++ (encodings a ++ x) ≡ encoding n ++ (encodings b ++ y) = sym (append_assoc (encoding m) (encodings a) x) ∙ e ∙ append_assoc (encoding n) (encodings b) y in
    let parts = w.apart m n (encodings a ++ x) (encodings b ++ y) ka.0.0 ka.0.1 kb.0.0 kb.0.1 both in
    ⊎_elim
    (λ (r : Continues a b x y). inl (record { more = r.more; is = ap (λ l. n ∷ l) r.is ∙ ap (λ q. q ∷ (a ++ r.more)) (sym parts.0); bytes = r.bytes; keep = r.keep }))
    (λ (r : Continues b a y x). inr (record { more = r.more; is = ap (λ l. m ∷ l) r.is ∙ ap (λ q. q ∷ (b ++ r.more)) parts.0; bytes = r.bytes; keep = r.keep }))
    (one-begins w a b x y ka.1 kb.1 parts.1)

cut-shorter : (a b : List ℕ) → IsCutShort (a ++ b) → IsCutShort a
cut-shorter a b (inl few) = inl (omega (arith, few, length-append a b))
cut-shorter a b (inr x) = ⊎_elim (λ few. inl few) there (cases_lt (length a) 4)
  where
    there : 4 ≤ length a → IsCutShort a
    there long =
        let same : length_of (a ++ b) ≡ length_of a = ap (λ (l : List ℕ). from_be_bytes w32 l) (take-append-le 4 a b long) in
        let low = x.0 in
        let high = x.1 in
        let short = x.2 in
        inr (omega (arith, same, low), omega (arith, same, high), omega (arith, same, short, length-append a b))

-- bytes that are awaited are awaited from their first one on
pub waits-shorter : WaitsExactly → (at to : ℕ) (a b : List ℕ) → front at (a ++ b) ≡ Partial → front to a ≡ Partial
waits-shorter w at to a b e = (w to a).1 (cut-shorter a b ((w at (a ++ b)).0 e))
