-- What is encoded by the number of the kind.
use Rattle.std.proofs.Common.{◌≡◌, ℕ, Bool, true, false, cond, eqb, ◌||◌, List, [], Option, Some, None, refl, sym, subst, ◌∙◌, arith}
use Rattle.std.specs.Prelude.{is_some}
use Rattle.std.proofs.lemmas.Bool.{eqb-true}
use Rattle.std.proofs.lemmas.Bool.Decides.{nat_tests}
use Rattle.np_message.specs.declared.payload.Payload.{Payload}
use Rattle.np_message.specs.declared.payload.Payload.TheVariants.{Hello, New, Destroy, Scriptable, Turn, NewStream, WriteReady, Write, AsFile, DestroyStream, Notify, Shutdown, Window, GetUrl, RequestRead, EndStream, Call, True, False, Threw, Idents, Code, Number, Done}
use Rattle.np_message.specs.Encoding.{kind_of, items_of}
use Rattle.np_message.specs.Rules.{KeepsKind, IsTypedBody}
use Rattle.np_message.specs.Items.{is_within, is_kind}
use Rattle.np_message.specs.Formats.{Format, Says, page_call_format, plugin_call_format, shared_format, kind_format, some_format}
use Rattle.np_message.specs.Faults.{Encodes}
use Rattle.np_wire_laws.proofs.Rows.{Row, row_of}
use Rattle.np_wire_laws.proofs.PageCalls.{hello_row, new_row, destroy_row, scriptable_row, new_stream_row, write_ready_row, write_row, as_file_row, destroy_stream_row, notify_row, hello_encodes, new_encodes, destroy_encodes, scriptable_encodes, new_stream_encodes, write_ready_encodes, write_encodes, as_file_encodes, destroy_stream_encodes, notify_encodes}
use Rattle.np_wire_laws.proofs.PluginCalls.{window_row, get_url_row, request_read_row, end_stream_row, window_encodes, get_url_encodes, request_read_encodes, end_stream_encodes}
use Rattle.np_wire_laws.proofs.ObjectCalls.{call_row, call_encodes}
use Rattle.np_wire_laws.proofs.Replies.{true_row, threw_row, idents_row, code_row, number_row, true_encodes, threw_encodes, idents_encodes, code_encodes, number_encodes}

-- ---- what is encoded

-- what the format encodes are payloads of this kind
abbrev AreRows : ℕ → Format Payload → Type 0
AreRows kind f = (p : Payload) (bytes : List ℕ) → Encodes f p bytes → Row kind bytes p

-- a format that is there encodes payloads of this kind
abbrev HasRows : ℕ → Option (Format Payload) → Type 0
HasRows kind None = Unit {0}
HasRows kind (Some f) = AreRows kind f

-- a kind without items
empty_rows : (said : Payload) → items_of said ≡ [] → KeepsKind said → IsTypedBody said → AreRows (kind_of said) (Says said)
empty_rows said empty keeps typed p bytes (same, none) =
    row_of (kind_of said) bytes said p same (record { kind_is = refl; parts = none ∙ sym empty; keeps = keeps; typed = typed })

rows_if : (kind n : ℕ) (f : Format Payload) (others : Option (Format Payload)) → AreRows n f → HasRows kind others → HasRows kind (cond (eqb kind n) (Some f) others)
rows_if kind n f others rows h = by_test (eqb kind n) refl
  where
    by_test : (b : Bool) → eqb kind n ≡ b → HasRows kind (cond b (Some f) others)
    by_test true e = subst (λ (k : ℕ). AreRows k f) (sym (eqb-true kind n e)) rows
    by_test false e = h

page_rows : (kind : ℕ) (others : Option (Format Payload)) → HasRows kind others → HasRows kind (page_call_format kind others)
unfolding page_call_format
page_rows kind others h =
    rows_if kind 1 _ _ hello_row
    (rows_if kind 2 _ _ new_row
    (rows_if kind 3 _ _ destroy_row
    (rows_if kind 4 _ _ scriptable_row
    (rows_if kind 5 _ _ (empty_rows Turn refl tt tt)
    (rows_if kind 6 _ _ new_stream_row
    (rows_if kind 7 _ _ write_ready_row
    (rows_if kind 8 _ _ write_row
    (rows_if kind 9 _ _ as_file_row
    (rows_if kind 10 _ _ destroy_stream_row
    (rows_if kind 11 _ _ notify_row
    (rows_if kind 12 _ _ (empty_rows Shutdown refl tt tt) h)))))))))))

plugin_rows : (kind : ℕ) (others : Option (Format Payload)) → HasRows kind others → HasRows kind (plugin_call_format kind others)
unfolding plugin_call_format
plugin_rows kind others h =
    rows_if kind 32 _ _ window_row
    (rows_if kind 33 _ _ get_url_row
    (rows_if kind 34 _ _ request_read_row
    (rows_if kind 35 _ _ end_stream_row h)))

shared_rows : (kind : ℕ) → HasRows kind (shared_format kind)
unfolding shared_format
shared_rows kind =
    rows_if kind 64 _ _ call_row
    (rows_if kind 65 _ _ true_row
    (rows_if kind 66 _ _ (empty_rows False refl tt tt)
    (rows_if kind 67 _ _ threw_row
    (rows_if kind 68 _ _ idents_row
    (rows_if kind 69 _ _ code_row
    (rows_if kind 70 _ _ number_row
    (rows_if kind 71 _ None (empty_rows Done refl tt tt) tt)))))))

kind_rows : (kind : ℕ) → HasRows kind (kind_format kind)
kind_rows kind = page_rows kind (plugin_call_format kind (shared_format kind)) (plugin_rows kind (shared_format kind) (shared_rows kind))

-- ---- which numbers have items

page_known : (kind : ℕ) (others : Option (Format Payload)) → is_some (page_call_format kind others) ≡ (is_within 1 12 kind || is_some others)
unfolding page_call_format
page_known kind others = grind (arith, nat_tests)

plugin_known : (kind : ℕ) (others : Option (Format Payload)) → is_some (plugin_call_format kind others) ≡ (is_within 32 35 kind || is_some others)
unfolding plugin_call_format
plugin_known kind others = grind (arith, nat_tests)

shared_known : (kind : ℕ) → is_some (shared_format kind) ≡ is_within 64 71 kind
unfolding shared_format
shared_known kind = grind (arith, nat_tests)

kind_known : (kind : ℕ) → is_some (kind_format kind) ≡ is_kind kind
kind_known kind =
    rw (page_known kind (plugin_call_format kind (shared_format kind)), plugin_known kind (shared_format kind), shared_known kind) refl

-- the row of a format that is there
some_row : (kind : ℕ) (found : Option (Format Payload)) → HasRows kind found → is_some found ≡ true → AreRows kind (some_format found)
some_row kind None rows known = absurd cc
some_row kind (Some f) rows known = rows

pub kind_row : (kind : ℕ) → is_kind kind ≡ true → (p : Payload) (bytes : List ℕ) → Encodes (some_format (kind_format kind)) p bytes → Row kind bytes p
kind_row kind known = some_row kind (kind_format kind) (kind_rows kind) (kind_known kind ∙ known)

-- ---- and back

pub is_known : (p : Payload) → is_kind (kind_of p) ≡ true
is_known (Hello version major minor) = refl
is_known (New instance mode mime attributes) = refl
is_known (Destroy instance) = refl
is_known (Scriptable instance) = refl
is_known Turn = refl
is_known (NewStream instance stream url mime size) = refl
is_known (WriteReady instance stream) = refl
is_known (Write instance stream offset content) = refl
is_known (AsFile instance stream path) = refl
is_known (DestroyStream instance stream reason) = refl
is_known (Notify instance url reason word) = refl
is_known Shutdown = refl
is_known (Window instance) = refl
is_known (GetUrl instance url word) = refl
is_known (RequestRead instance stream ranges) = refl
is_known (EndStream instance stream reason) = refl
is_known (Call instance serial op arguments) = refl
is_known (True value) = refl
is_known False = refl
is_known (Threw text) = refl
is_known (Idents keys) = refl
is_known (Code error) = refl
is_known (Number n) = refl
is_known Done = refl

pub payload_encodes : (p : Payload) → KeepsKind p → IsTypedBody p → Encodes (some_format (kind_format (kind_of p))) p (items_of p)
unfolding page_call_format plugin_call_format shared_format
payload_encodes (Hello version major minor) keeps typed = hello_encodes version major minor keeps typed
payload_encodes (New instance mode mime attributes) keeps typed = new_encodes instance mode mime attributes keeps typed
payload_encodes (Destroy instance) keeps typed = destroy_encodes instance keeps typed
payload_encodes (Scriptable instance) keeps typed = scriptable_encodes instance keeps typed
payload_encodes Turn keeps typed = (refl, refl)
payload_encodes (NewStream instance stream url mime size) keeps typed = new_stream_encodes instance stream url mime size keeps typed
payload_encodes (WriteReady instance stream) keeps typed = write_ready_encodes instance stream keeps typed
payload_encodes (Write instance stream offset content) keeps typed = write_encodes instance stream offset content keeps typed
payload_encodes (AsFile instance stream path) keeps typed = as_file_encodes instance stream path keeps typed
payload_encodes (DestroyStream instance stream reason) keeps typed = destroy_stream_encodes instance stream reason keeps typed
payload_encodes (Notify instance url reason word) keeps typed = notify_encodes instance url reason word keeps typed
payload_encodes Shutdown keeps typed = (refl, refl)
payload_encodes (Window instance) keeps typed = window_encodes instance keeps typed
payload_encodes (GetUrl instance url word) keeps typed = get_url_encodes instance url word keeps typed
payload_encodes (RequestRead instance stream ranges) keeps typed = request_read_encodes instance stream ranges keeps typed
payload_encodes (EndStream instance stream reason) keeps typed = end_stream_encodes instance stream reason keeps typed
payload_encodes (Call instance serial op arguments) keeps typed = call_encodes instance serial op arguments keeps typed
payload_encodes (True value) keeps typed = true_encodes value keeps typed
payload_encodes False keeps typed = (refl, refl)
payload_encodes (Threw text) keeps typed = threw_encodes text typed
payload_encodes (Idents keys) keeps typed = idents_encodes keys keeps typed
payload_encodes (Code error) keeps typed = code_encodes error
payload_encodes (Number n) keeps typed = number_encodes n typed
payload_encodes Done keeps typed = (refl, refl)
