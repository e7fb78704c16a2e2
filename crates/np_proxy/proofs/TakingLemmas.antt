-- A loop that takes up names, one after another.
use Rattle.std.proofs.Common.{◌≡◌, ◌+◌, ◌-◌, ◌<◌, ◌≤◌, ◌^◌, ℕ, List, [], ◌∷◌, length, take, drop, get_or, Bool, true, false, Some, None, sym, ap, ◌∙◌, arith}
use Rattle.std.proofs.lemmas.List.{take_more, drop_more}
use Rattle.np_values.specs.declared.name.Name.{Name}
use Rattle.np_proxy_release.specs.declared.release.Release.{Release}
use Rattle.np_proxy.specs.declared.import.Import.{Import}
use Rattle.np_proxy.specs.Named.{is_rising}
use Rattle.np_proxy.specs.Imports.{import_name, received_in, holders_in, was_purged, taken_up, all_taken_up, has_room, full_among}
use Rattle.np_proxy.proofs.ImportLemmas.{length-taken_up, holders-taken, all-taken-push, full-none, full-here, full-passed, room-below}

-- the first i names were taken up, and the others find room
pub record IsTaking (purged : List Bool) (names : List Name) (first : List Import) (i : ℕ) (es : List Import) (capacity : ℕ) : Type 0 where
  pub value : es ≡ all_taken_up purged (take i names) first
  pub rising : is_rising import_name es ≡ true
  pub within : i ≤ length names
  pub room : length es + (length names - i) ≤ capacity
  pub fits : full_among purged [] (drop i names) es ≡ None
  pub holders : (x : Name) → holders_in x es + (length names - i) < 2 ^ 64

module _ (purged : List Bool) (names : List Name) (first : List Import) (i : ℕ) (es : List Import) (capacity : ℕ) (t : IsTaking purged names first i es capacity) (l : i < length names) (d : Name) where
  next : drop i names ≡ get_or names i d ∷ drop (i + 1) names
  next = drop_more names i d l

  parts : (has_room purged [] (get_or names i d) es ≡ true) × (full_among purged [] (drop (i + 1) names) (taken_up purged (get_or names i d) es) ≡ None)
  parts = full-none purged [] (get_or names i d) (drop (i + 1) names) es (ap (λ (xs : List Name). full_among purged [] xs es) (sym next) ∙ t.fits)

  pub taking-room : length es < capacity
  taking-room = let r = t.room in omega (arith, r, l)

  pub taking-received : was_purged purged (get_or names i d).instance ≡ false → received_in (get_or names i d) es + 1 < 2 ^ 32
  taking-received p = let low = room-below purged [] (get_or names i d) es p parts.0 in omega (arith, low)

  pub taking-holders : holders_in (get_or names i d) es + 1 < 2 ^ 64
  taking-holders = let h = t.holders (get_or names i d) in omega (arith, h, l)

  pub taking-more : (new : List Import) (capacity' : ℕ) → new ≡ taken_up purged (get_or names i d) es → is_rising import_name new ≡ true → capacity ≤ capacity' → IsTaking purged names first (i + 1) new capacity'
  taking-more new capacity' v r c = record {
    value = v ∙ ap (λ (s : List Import). taken_up purged (get_or names i d) s) t.value ∙ sym (all-taken-push purged (take i names) (get_or names i d) first) ∙ ap (λ (xs : List Name). all_taken_up purged xs first) (sym (take_more names i d l));
    rising = r;
    within = omega (arith, l);
    room = let n = length-taken_up purged (get_or names i d) es in let m = ap (λ (s : List Import). length s) v in let o = t.room in omega (arith, n, m, o, l, c);
    fits = ap (λ (s : List Import). full_among purged [] (drop (i + 1) names) s) v ∙ parts.1;
    holders = λ y. let n = holders-taken purged (get_or names i d) y es in let m = ap (λ (s : List Import). holders_in y s) v in let o = t.holders y in omega (arith, n, m, o, l);
  }

-- ---- a loop that looks for a name of which there is no room

module _ (purged : List Bool) (rs : List Release) (names : List Name) (es : List Import) (i : ℕ) (l : i < length names) (d : Name) where
  from_next : drop i names ≡ get_or names i d ∷ drop (i + 1) names
  from_next = drop_more names i d l

  pub looking-more : has_room purged rs (get_or names i d) (all_taken_up purged (take i names) es) ≡ true → full_among purged rs (drop i names) (all_taken_up purged (take i names) es) ≡ full_among purged rs (drop (i + 1) names) (all_taken_up purged (take (i + 1) names) es)
  looking-more r =
      ap (λ (xs : List Name). full_among purged rs xs (all_taken_up purged (take i names) es)) from_next
      ∙ full-passed purged rs (get_or names i d) (drop (i + 1) names) (all_taken_up purged (take i names) es) r
      ∙ ap (λ (s : List Import). full_among purged rs (drop (i + 1) names) s) (sym (all-taken-push purged (take i names) (get_or names i d) es) ∙ ap (λ (xs : List Name). all_taken_up purged xs es) (sym (take_more names i d l)))

  pub looking-found : has_room purged rs (get_or names i d) (all_taken_up purged (take i names) es) ≡ false → full_among purged rs (drop i names) (all_taken_up purged (take i names) es) ≡ Some (get_or names i d)
  looking-found r =
      ap (λ (xs : List Name). full_among purged rs xs (all_taken_up purged (take i names) es)) from_next
      ∙ full-here purged rs (get_or names i d) (drop (i + 1) names) (all_taken_up purged (take i names) es) r
