-- Lists inside a format, and bodies item by item.
use Rattle.std.proofs.Common.{◌≡◌, ℕ, ℤ, zero, suc, List, ◌∷◌, Option, Some, None, Ok, Err, Result, refl, sym, ◌∙◌}
use Rattle.np_values.specs.declared.range.Range.{Range}
use Rattle.np_proxy_release.specs.declared.release.Release.{Release}
use Rattle.np_message.specs.declared.depth.Depth.{Depth}
use Rattle.np_message.specs.declared.payload.Payload.{Payload}
use Rattle.np_message.specs.Message.{Message}
use Rattle.np_message.specs.Items.{Item, KindItem, DepthItem, CountItem, NumberItem, IntItem, Holds}
use Rattle.np_message.specs.Formats.{Format, Says, Then, many, many_ranges, many_releases, carried, kind_format, some_format, message_format}
use Rattle.np_message.specs.Decoding.{◌>>=◌, Reading, read_item, read_release, read}
use Rattle.np_wire_decode.specs.Reading.{read_many, read_range, read_ranges, read_releases, read_body}

-- ---- readings one after another

bind_same : {A B E : Type 0} (r : Result A E) (f g : A → Result B E) → ((x : A) → f x ≡ g x) → (r >>= f) ≡ (r >>= g)
bind_same (Ok x) f g h = h x
bind_same (Err e) f g h = refl

bind_assoc : {A B C E : Type 0} (r : Result A E) (f : A → Result B E) (g : B → Result C E) → ((r >>= f) >>= g) ≡ (r >>= (λ x. f x >>= g))
bind_assoc (Ok x) f g = refl
bind_assoc (Err e) f g = refl

-- ---- lists

pub many_read : {A : Type 0} (item : Item) (n : ℕ) (next : List (Holds item) → Format A) (bytes : List ℕ) → read (many item n next) bytes ≡ (read_many item n bytes >>= (λ xs. read (next xs.0) xs.1))
many_read item zero next bytes = refl
many_read {A} item (suc n) next bytes =
    let r = read_item item bytes in
    let g : List (Holds item) × List ℕ → Reading A = λ xs. read (next xs.0) xs.1 in
    let cons : Holds item → List (Holds item) × List ℕ → Reading (List (Holds item)) = λ x xs. Ok (x ∷ xs.0, xs.1) in
    bind_same r (λ x. read (many item n (λ xs. next (x.0 ∷ xs))) x.1) (λ x. (read_many item n x.1 >>= cons x.0) >>= g) (λ x. many_read item n (λ xs. next (x.0 ∷ xs)) x.1 ∙ sym (bind_assoc (read_many item n x.1) (cons x.0) g))
    ∙ sym (bind_assoc r (λ x. read_many item n x.1 >>= cons x.0) g)

pub ranges_read : {A : Type 0} (n : ℕ) (next : List Range → Format A) (bytes : List ℕ) → read (many_ranges n next) bytes ≡ (read_ranges n bytes >>= (λ xs. read (next xs.0) xs.1))
ranges_read zero next bytes = refl
ranges_read {A} (suc n) next bytes =
    let g : List Range × List ℕ → Reading A = λ xs. read (next xs.0) xs.1 in
    let cons : Range → List Range × List ℕ → Reading (List Range) = λ x xs. Ok (x ∷ xs.0, xs.1) in
    let one : Range × List ℕ → Reading A = λ x. read (many_ranges n (λ xs. next (x.0 ∷ xs))) x.1 in
    let as_range : ℤ × List ℕ → ℕ × List ℕ → Reading Range = λ offset size. Ok (record { offset = offset.0; length = size.0 }, size.1) in
    let sized : ℤ × List ℕ → Reading Range = λ offset. read_item (NumberItem 0) offset.1 >>= as_range offset in
    bind_same (read_item IntItem bytes) (λ offset. read_item (NumberItem 0) offset.1 >>= (λ size. as_range offset size >>= one)) (λ offset. sized offset >>= one) (λ offset. sym (bind_assoc (read_item (NumberItem 0) offset.1) (as_range offset) one))
    ∙ sym (bind_assoc (read_item IntItem bytes) sized one)
    ∙ bind_same (read_range bytes) one (λ x. (read_ranges n x.1 >>= cons x.0) >>= g) (λ x. ranges_read n (λ xs. next (x.0 ∷ xs)) x.1 ∙ sym (bind_assoc (read_ranges n x.1) (cons x.0) g))
    ∙ sym (bind_assoc (read_range bytes) (λ x. read_ranges n x.1 >>= cons x.0) g)

pub releases_read : {A : Type 0} (before : Option Release) (n : ℕ) (next : List Release → Format A) (bytes : List ℕ) → read (many_releases before n next) bytes ≡ (read_releases before n bytes >>= (λ xs. read (next xs.0) xs.1))
releases_read before zero next bytes = refl
releases_read {A} before (suc n) next bytes =
    let r = read_release before bytes in
    let g : List Release × List ℕ → Reading A = λ xs. read (next xs.0) xs.1 in
    let cons : Release → List Release × List ℕ → Reading (List Release) = λ x xs. Ok (x ∷ xs.0, xs.1) in
    bind_same r (λ x. read (many_releases (Some x.0) n (λ xs. next (x.0 ∷ xs))) x.1) (λ x. (read_releases (Some x.0) n x.1 >>= cons x.0) >>= g) (λ x. releases_read (Some x.0) n (λ xs. next (x.0 ∷ xs)) x.1 ∙ sym (bind_assoc (read_releases (Some x.0) n x.1) (cons x.0) g))
    ∙ sym (bind_assoc r (λ x. read_releases (Some x.0) n x.1 >>= cons x.0) g)

-- ---- bodies

carried_read : (depth : Depth) (releases : List Release) (f : Format Payload) (bytes : List ℕ) → read (carried depth releases f) bytes ≡ (read f bytes >>= (λ p. Ok (record { depth = depth; releases = releases; body = p.0 }, p.1)))
carried_read depth releases (Says body) bytes = refl
carried_read depth releases (Then item next) bytes =
    let made : Payload × List ℕ → Reading Message = λ p. Ok (record { depth = depth; releases = releases; body = p.0 }, p.1) in
    let r = read_item item bytes in
    bind_same r (λ x. read (carried depth releases (next x.0)) x.1) (λ x. read (next x.0) x.1 >>= made) (λ x. carried_read depth releases (next x.0) x.1)
    ∙ sym (bind_assoc r (λ x. read (next x.0) x.1) made)

-- a body read by the format is read item by item
pub body_read : (bytes : List ℕ) → read message_format bytes ≡ read_body bytes
unfolding read_body
body_read bytes =
    bind_same (read_item KindItem bytes) _ _ (λ kind.
    bind_same (read_item DepthItem kind.1) _ _ (λ depth.
    bind_same (read_item (CountItem 1024) depth.1) _ _ (λ count.
    (let f = some_format (kind_format kind.0) in
    releases_read None count.0 (λ releases. carried depth.0 releases f) count.1
    ∙ bind_same (read_releases None count.0 count.1) _ _ (λ releases. carried_read depth.0 releases.0 f releases.1)))))
