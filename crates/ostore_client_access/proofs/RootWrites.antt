-- The row of a root, written through a client.
use Rattle.std.proofs.Common.{◌≡◌, ℕ, ◌^◌, ◌<◌, ◌≤◌, Bool, cond, List, [], ◌∷◌, length, replicate, sym, ap, subst, ◌∙◌, arith, inl, inr}
use Rattle.std.specs.Prelude.{Option, IsSome}
use Rattle.std.proofs.lemmas.Bool.{cases_eq, eq-eqb, ne_eqb}
use Rattle.std.proofs.lemmas.List.{length-replicate}
use Rattle.byteorder.specs.Endian.{little_bytes}
use Rattle.byteorder.specs.Numbers.{length-bytes_low_first}
use Rattle.ostore_base.specs.Disk.{replaced}
use Rattle.ostore_base.specs.declared.numbers.PageNo.{PageNo}
use Rattle.ostore_schema_layout.specs.declared.schema.Schema.{Schema}
use Rattle.ostore_page_tags.specs.Numbers.{number_at, with_number}
use Rattle.ostore_page_tags.proofs.bytes.ImageLaws.{length-replaced_within, number_at-with_number}
use Rattle.ostore_relocation.specs.Places.{root_place}
use Rattle.ostore_relocation.specs.Pointers.{stored_pointer}
use Rattle.ostore_relocation.specs.Forms.{stored_form}
use Rattle.ostore_relocation.specs.Stores.{LeadsToFrame, StoresAs, stored_root}
use Rattle.ostore_relocation.proofs.StoreLaws.{replaced_again}
use Rattle.ostore_relocation.proofs.RootRowLaws.{puts_root}
use Rattle.ostore_segments.specs.Holdings.{Becomes}
use Rattle.ostore_segments.specs.Edits.{IsRootAsked, root_row, stored_or_null, with_root}
use Rattle.ostore_segments.proofs.RootLaws.{row_made}
use Rattle.ostore_page_service.specs.Told.{Told}
use Rattle.ostore_graph_model.specs.declared.commands.Script.{Script}
use Rattle.ostore_graph_model.specs.declared.history.Entry.{Entry}
use Rattle.ostore_client_core.specs.Clients.{ClientView}
use Rattle.ostore_client_core.specs.Attempts.{home_of, Attempts}
use Rattle.ostore_client_access.specs.Accesses.{access_held}
use Rattle.ostore_client_access.specs.inside.Puts.{PutsInto}
use Rattle.ostore_client_access.proofs.AccessLaws.{becomes_edits, edits_put}
use Rattle.ostore_client_access.proofs.HomeLaws.{home_same, home_leads, home_written}

-- ---- the parts of a row

-- a row with a pointer of 0
abbrev start_of : List ℕ → List ℕ
start_of name = replaced 1 name (replaced 0 (length name ∷ []) (replicate 40 0))

long_start : (name : List ℕ) → length name ≤ 31 → length (start_of name) ≡ 40
long_start name short =
    let zeros : length (replicate {A = ℕ} 40 0) ≡ 40 = length-replicate {A = ℕ} 40 0 in
    let first : length (replaced 0 (length name ∷ []) (replicate 40 0)) ≡ length (replicate {A = ℕ} 40 0) = length-replaced_within 0 (length name ∷ []) (replicate 40 0) (omega arith) in
    let second = length-replaced_within 1 name (replaced 0 (length name ∷ []) (replicate 40 0)) (omega arith) in
    omega arith

long_row : (name : List ℕ) (pointer : ℕ) → length name ≤ 31 → length (root_row name pointer) ≡ 40
long_row name pointer short =
    let start = long_start name short in
    let size : length (little_bytes 4 pointer) ≡ 4 = length-bytes_low_first 0 4 pointer in
    ap (λ (l : List ℕ). length l) (sym (row_made name pointer short)) ∙ length-replaced_within 32 (little_bytes 4 pointer) (start_of name) (omega arith) ∙ start

pointer_read : (name : List ℕ) (pointer : ℕ) → length name ≤ 31 → pointer < 256 ^ 4 → number_at 4 32 (root_row name pointer) ≡ pointer
pointer_read name pointer short fits =
    let start = long_start name short in
    ap (number_at 4 32) (sym (row_made name pointer short)) ∙ number_at-with_number 4 32 pointer (start_of name) fits (omega arith)

pointer_put : (name : List ℕ) (pointer value : ℕ) → length name ≤ 31 → with_number 4 32 value (root_row name pointer) ≡ root_row name value
pointer_put name pointer value short =
    let start = long_start name short in
    let one : length (little_bytes 4 pointer) ≡ 4 = length-bytes_low_first 0 4 pointer in
    let two : length (little_bytes 4 value) ≡ 4 = length-bytes_low_first 0 4 value in
    ap (with_number 4 32 value) (sym (row_made name pointer short)) ∙ replaced_again 32 (little_bytes 4 pointer) (little_bytes 4 value) (start_of name) (omega arith) (omega arith) ∙ row_made name value short

length_read : (name : List ℕ) (pointer : ℕ) → number_at 1 0 (root_row name pointer) ≡ length name
length_read name pointer = omega arith

-- ---- the row as it is stored

row_stored : (pages : List (Option PageNo)) (name : List ℕ) (pointer : ℕ) → IsRootAsked name pointer → pointer < 256 ^ 4 → stored_root pages (root_row name pointer) ≡ root_row name (stored_pointer pages pointer)
row_stored pages name pointer asked fits = elim (cases_eq (length name) 0) [
  | inl none ↦
      let zero : pointer ≡ 0 = asked.free none in
      ap (λ (b : Bool). cond b (root_row name pointer) (with_number 4 32 (stored_pointer pages (number_at 4 32 (root_row name pointer))) (root_row name pointer))) (eq-eqb (number_at 1 0 (root_row name pointer)) 0 (length_read name pointer ∙ none))
      ∙ ap (root_row name) (zero ∙ sym (ap (stored_pointer pages) zero))
  | inr some ↦
      ap (λ (b : Bool). cond b (root_row name pointer) (with_number 4 32 (stored_pointer pages (number_at 4 32 (root_row name pointer))) (root_row name pointer)))
      (ne_eqb (number_at 1 0 (root_row name pointer)) 0 (λ e. some (sym (length_read name pointer) ∙ e)))
      ∙ ap (λ (v : ℕ). with_number 4 32 (stored_pointer pages v) (root_row name pointer)) (pointer_read name pointer asked.short fits)
      ∙ pointer_put name pointer (stored_pointer pages pointer) asked.short
]

-- ---- the edit

pub rooted : (a b : Script → Type 0) (t u : Told Entry) (x new : ClientView) (i : ℕ) (name : List ℕ) (pointer : ℕ) (bytes : List ℕ) → bytes ≡ root_row name pointer → i < 101 → IsRootAsked name pointer → pointer < 256 ^ 4 → IsSome (home_of x pointer) → Attempts a t x
    → PutsInto a b t u x new 9 (root_place i) bytes
    → Becomes (access_held a t x) (access_held b u new) (λ old now. now ≡ with_root i name (stored_or_null (home_of x pointer)) old)
rooted a b t u x new i name pointer bytes are below asked fits leads runs p =
    let own = p.narrows.runs.own in
    let resident = own.resident 9 p.entry p.there in
    let pages : List (Option PageNo) = p.owned.frames.pages in
    let schema : Schema = p.owned.schema in
    let held : List ℕ = p.entry.image.bytes in
    let was : List ℕ = stored_form pages schema 9 held in
    let row : List ℕ = root_row name pointer in
    let put : List ℕ = root_row name (stored_pointer pages pointer) in
    let home : home_of p.owned pointer ≡ home_of x pointer = home_same x p.owned pointer p.narrows.frames leads in
    let leading : IsSome (home_of p.owned pointer) = subst IsSome (sym home) leads in
    let written : stored_or_null (home_of x pointer) ≡ stored_pointer pages pointer = ap stored_or_null (sym home) ∙ home_written p.owned pointer leading in
    let there : LeadsToFrame pages (number_at 4 32 row) = subst (LeadsToFrame pages) (sym (pointer_read name pointer asked.short fits)) (home_leads p.owned pointer leading) in
    let stores : StoresAs pages schema 9 (replaced (root_place i) row held) (replaced (root_place i) put was) =
    subst (λ (q : List ℕ). StoresAs pages schema 9 (replaced (root_place i) row held) (replaced (root_place i) q was)) (row_stored pages name pointer asked fits) (puts_root pages schema i row held resident.form below (long_row name pointer asked.short) there) in
    subst (λ (n : ℕ). Becomes (access_held a t x) (access_held b u new) (λ old now. now ≡ with_root i name n old)) (sym written)
    (becomes_edits a b t u x new 9 (root_place i) put runs
    (edits_put a b t u x new 9 (root_place i) bytes put p (subst (λ (q : List ℕ). StoresAs pages schema 9 (replaced (root_place i) q held) (replaced (root_place i) put was)) (sym are) stores) (λ ten. absurd (omega arith))))
