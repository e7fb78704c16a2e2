-- What holds where lines in order have led: neither `do` nor the end of the open class was declared yet.
use Rattle.std.proofs.Common.{◌≡◌, ℕ, List, [], ◌∷◌, ◌++◌, Bool, true, false, cond, Some, refl, ap, sym, ◌∙◌, subst, ◌⊎◌, inl, inr}
use Rattle.std.specs.Prelude.{codes, bytes_eq}
use Rattle.std.specs.List.{list_any}
use Rattle.std.proofs.lemmas.Bool.{or_parts}
use Rattle.std.proofs.lemmas.Slice.Eq.{bytes_eq-Decides}
use Rattle.np_values.specs.declared.name.Side.{Side}
use Rattle.np_values.specs.declared.name.Side.TheVariants as sides
use Rattle.np_script_grammar.specs.declared.line.Field.{Field}
use Rattle.np_script_grammar.specs.declared.place.Place.{Place}
use Rattle.np_script_grammar.specs.declared.place.Place.TheVariants.{Head, Top, Class, MemberBody, Body, Commands}
use Rattle.np_script_grammar.specs.Fields.{field_word}
use Rattle.np_script_grammar.specs.Forms.{Form, Line, Table, form_of}
use Rattle.np_script_grammar.specs.Tables.{top_table, class_table}
use Rattle.np_script_grammar.specs.Scripts.{place_after}
use Rattle.np_script_grammar.specs.Order.{Counts, Standing, declared_by, are_few, MayFollow, AreInOrder, standing_after}
use Rattle.np_script_grammar.specs.Refusals.{standing_behind}

-- the line wasn't declared
abbrev pub Absent : List ℕ → List (List ℕ) → Type 0
Absent word declared = list_any (bytes_eq word) declared ≡ false

abbrev pub Clear : Side → Place → List (List ℕ) → List (List ℕ) → Type 0
Clear side Head at_top in_class = Absent (codes "do") at_top
Clear side Top at_top in_class = Absent (codes "do") at_top
Clear side Class at_top in_class = Absent (codes "do") at_top × Absent (codes "endclass") in_class
Clear side MemberBody at_top in_class = Absent (codes "do") at_top × Absent (codes "endclass") in_class
Clear side Body at_top in_class = Absent (codes "do") at_top
Clear sides.Page Commands at_top in_class = Unit {0}
Clear sides.Plug Commands at_top in_class = ⊥

-- ---- what is declared begins with the line's word

begins_with : (b : ℕ) (bs : List ℕ) (fields : List Field) → (rest : List ℕ) × (declared_by (b ∷ bs, fields) ≡ b ∷ rest)
begins_with b bs [] = (bs, refl)
begins_with b bs (field ∷ fields) = (bs ++ 32 ∷ field_word field, refl)

any_append : (word : List ℕ) (declared : List (List ℕ)) (more : List ℕ) → Absent word declared → bytes_eq word more ≡ false → Absent word (declared ++ more ∷ [])
any_append word [] more e f = rw f refl
any_append word (first ∷ declared) more e f =
    let parts = or_parts (bytes_eq word first) (list_any (bytes_eq word) declared) e in
    rw (parts.0, any_append word declared more parts.1 f) refl

-- another declaration than `do`, by its first byte
not_do : (b : ℕ) (bs : List ℕ) (fields : List Field) (at_top : List (List ℕ)) → Absent (codes "do") at_top → ((rest : List ℕ) → bytes_eq (codes "do") (b ∷ rest) ≡ false) → Absent (codes "do") (at_top ++ declared_by (b ∷ bs, fields) ∷ [])
not_do b bs fields at_top e other =
    let starts = begins_with b bs fields in
    any_append (codes "do") at_top (declared_by (b ∷ bs, fields)) e (ap (bytes_eq (codes "do")) starts.1 ∙ other starts.0)

not_endclass : (b : ℕ) (bs : List ℕ) (fields : List Field) (in_class : List (List ℕ)) → Absent (codes "endclass") in_class → ((rest : List ℕ) → bytes_eq (codes "endclass") (b ∷ rest) ≡ false)
    → Absent (codes "endclass") (in_class ++ declared_by (b ∷ bs, fields) ∷ [])
not_endclass b bs fields in_class e other =
    let starts = begins_with b bs fields in
    any_append (codes "endclass") in_class (declared_by (b ∷ bs, fields)) e (ap (bytes_eq (codes "endclass")) starts.1 ∙ other starts.0)

-- ---- the words of a table

-- the word is one of these
abbrev Among : List ℕ → Table → Type 0
Among word [] = ⊥
Among word (row ∷ rows) = (word ≡ row.0) ⊎ Among word rows

in_row : (t : Bool) (word : List ℕ) (row : List ℕ × Form) (rows : Table) (form : Form) → bytes_eq word row.0 ≡ t → (form_of rows word ≡ Some form → Among word rows) → form_of (row ∷ rows) word ≡ Some form → Among word (row ∷ rows)
in_row true word row rows form e others f = inl ((bytes_eq-Decides word row.0).0 e)
in_row false word row rows form e others f = inr (others (subst (λ (t : Bool). cond t (Some row.1) (form_of rows word) ≡ Some form) e f))

among : (table : Table) (word : List ℕ) (form : Form) → form_of table word ≡ Some form → Among word table
among [] word form e = absurd cc
among (row ∷ rows) word form e = in_row (bytes_eq word row.0) word row rows form refl (among rows word form) e

-- ---- a step at each place

at_top_of_page : (word : List ℕ) (fields : List Field) (at_top : List (List ℕ)) → Among word (top_table sides.Page) → Absent (codes "do") at_top
    → Clear sides.Page (place_after Top word) (at_top ++ declared_by (word, fields) ∷ []) []
at_top_of_page word fields at_top (inl e) clear =
    subst (λ (w : List ℕ). Clear sides.Page (place_after Top w) (at_top ++ declared_by (w, fields) ∷ []) []) (sym e) (not_do 99 (codes "lass") fields at_top clear (λ rest. refl), refl)
at_top_of_page word fields at_top (inr (inl e)) clear =
    subst (λ (w : List ℕ). Clear sides.Page (place_after Top w) (at_top ++ declared_by (w, fields) ∷ []) []) (sym e) (not_do 114 (codes "esource") fields at_top clear (λ rest. refl))
at_top_of_page word fields at_top (inr (inr (inl e))) clear =
    subst (λ (w : List ℕ). Clear sides.Page (place_after Top w) (at_top ++ declared_by (w, fields) ∷ []) []) (sym e) tt
at_top_of_page word fields at_top (inr (inr (inr none))) clear = elim none [ ]

at_top_of_plugin : (word : List ℕ) (fields : List Field) (at_top : List (List ℕ)) → Among word (top_table sides.Plug) → Absent (codes "do") at_top
    → Clear sides.Plug (place_after Top word) (at_top ++ declared_by (word, fields) ∷ []) []
at_top_of_plugin word fields at_top (inl e) clear =
    subst (λ (w : List ℕ). Clear sides.Plug (place_after Top w) (at_top ++ declared_by (w, fields) ∷ []) []) (sym e) (not_do 99 (codes "lass") fields at_top clear (λ rest. refl), refl)
at_top_of_plugin word fields at_top (inr (inl e)) clear =
    subst (λ (w : List ℕ). Clear sides.Plug (place_after Top w) (at_top ++ declared_by (w, fields) ∷ []) []) (sym e) (not_do 104 (codes "andler") fields at_top clear (λ rest. refl))
at_top_of_plugin word fields at_top (inr (inr (inl e))) clear =
    subst (λ (w : List ℕ). Clear sides.Plug (place_after Top w) (at_top ++ declared_by (w, fields) ∷ []) []) (sym e) (not_do 116 (codes "ask") fields at_top clear (λ rest. refl))
at_top_of_plugin word fields at_top (inr (inr (inr none))) clear = elim none [ ]

at_top : (side : Side) (word : List ℕ) (fields : List Field) (declared : List (List ℕ)) → Among word (top_table side) → Absent (codes "do") declared
    → Clear side (place_after Top word) (declared ++ declared_by (word, fields) ∷ []) []
at_top sides.Page = at_top_of_page
at_top sides.Plug = at_top_of_plugin

-- a class before and behind one of its lines
abbrev OpenClass : Side → List Field → List (List ℕ) → List (List ℕ) → List ℕ → Type 0
OpenClass side fields top members w = Clear side (place_after Class w) top (members ++ declared_by (w, fields) ∷ [])

in_class : (side : Side) (word : List ℕ) (fields : List Field) (top members : List (List ℕ)) → Among word class_table → Absent (codes "do") top → Absent (codes "endclass") members
    → OpenClass side fields top members word
in_class side word fields top members (inl e) no_do none =
    subst (OpenClass side fields top members) (sym e) (no_do, not_endclass 100 (codes "ata") fields members none (λ rest. refl))
in_class side word fields top members (inr (inl e)) no_do none =
    subst (OpenClass side fields top members) (sym e) (no_do, not_endclass 109 (codes "ethod") fields members none (λ rest. refl))
in_class side word fields top members (inr (inr (inl e))) no_do none =
    subst (OpenClass side fields top members) (sym e) (no_do, not_endclass 100 (codes "efault") fields members none (λ rest. refl))
in_class side word fields top members (inr (inr (inr (inl e)))) no_do none =
    subst (OpenClass side fields top members) (sym e) (no_do, not_endclass 99 (codes "onstruct") fields members none (λ rest. refl))
in_class side word fields top members (inr (inr (inr (inr (inl e))))) no_do none =
    subst (OpenClass side fields top members) (sym e) (no_do, not_endclass 103 (codes "etter") fields members none (λ rest. refl))
in_class side word fields top members (inr (inr (inr (inr (inr (inl e)))))) no_do none =
    subst (OpenClass side fields top members) (sym e) (no_do, not_endclass 115 (codes "etter") fields members none (λ rest. refl))
in_class side word fields top members (inr (inr (inr (inr (inr (inr (inl e))))))) no_do none =
    subst (OpenClass side fields top members) (sym e) no_do
in_class side word fields top members (inr (inr (inr (inr (inr (inr (inr other))))))) no_do none = elim other [ ]

in_member : (t : Bool) (side : Side) (top members : List (List ℕ)) → Absent (codes "do") top × Absent (codes "endclass") members → Clear side (cond t Class MemberBody) top members
in_member true side top members clear = clear
in_member false side top members clear = clear

in_body : (t : Bool) (side : Side) (top members : List (List ℕ)) → Absent (codes "do") top → Clear side (cond t Top Body) top members
in_body true side top members clear = clear
in_body false side top members clear = clear

-- what stands behind a line is clear where it was clear before it
abbrev pub IsClear : Side → Standing → Type 0
IsClear side s = Clear side s.place s.at_top s.in_class

step : (side : Side) (place : Place) (counts : Counts) (top members : List (List ℕ)) (line : Line)
    → MayFollow side (record { place = place; counts = counts; at_top = top; in_class = members }) line → Clear side place top members
    → IsClear side (standing_after (record { place = place; counts = counts; at_top = top; in_class = members }) line)
step side Head counts top members line may clear = clear
step side Top counts top members line may clear = at_top side line.0 line.1 top (among (top_table side) line.0 may.listed.form may.listed.listed) clear
step side Class counts top members line may clear = in_class side line.0 line.1 top members (among class_table line.0 may.listed.form may.listed.listed) clear.0 clear.1
step side MemberBody counts top members line may clear = in_member (bytes_eq line.0 (codes "end")) side top members clear
step side Body counts top members line may clear = in_body (bytes_eq line.0 (codes "end")) side top members clear
step sides.Page Commands counts top members line may clear = tt
step sides.Plug Commands counts top members line may clear = clear

pub stays_clear : (side : Side) (s : Standing) (lines : List Line) → AreInOrder side s lines → IsClear side s → IsClear side (standing_behind s lines)
stays_clear side s [] all clear = clear
stays_clear side s (line ∷ lines) all clear = stays_clear side (standing_after s line) lines all.1 (step side s.place s.counts s.at_top s.in_class line all.0 clear)

pub stays_few : (side : Side) (s : Standing) (lines : List Line) → AreInOrder side s lines → are_few s.counts ≡ true → are_few (standing_behind s lines).counts ≡ true
stays_few side s [] all few = few
stays_few side s (line ∷ lines) all few = stays_few side (standing_after s line) lines all.1 all.0.few
