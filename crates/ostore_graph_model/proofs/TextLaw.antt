-- A text is written into an object: the pages hold the graph with that text.
use Rattle.std.proofs.Common.{◌≡◌, ℕ, zero, suc, ◌+◌, ◌-◌, ◌≤◌, Bool, true, cond, leb, List, [], ◌∷◌, ◌++◌, length, take, drop, replicate, refl, sym, ap, ap₂, subst, ◌∙◌, arith, Some, length-append}
use Rattle.std.specs.List.{slice_get, list_all}
use Rattle.std.specs.Str.{is_utf8}
use Rattle.std.proofs.Math.Seq.{take-append_seam, drop-append_seam}
use Rattle.std.proofs.lemmas.Bool.{and_parts, and_from, le-leb}
use Rattle.std.proofs.lemmas.List.{length-replicate, take-take, drop-drop, append_assoc}
use Rattle.std.proofs.lemmas.Option.{same_Some, none-some}
use Rattle.byteorder.specs.Endian.{little_number}
use Rattle.ostore_base.specs.Disk.{replaced}
use Rattle.ostore_page_tags.specs.Numbers.{number_at}
use Rattle.ostore_page_tags.specs.Cells.{between}
use Rattle.ostore_page_tags.specs.Rules.{are_zero}
use Rattle.ostore_page_tags.proofs.bytes.ImageLaws.{length-replaced_within, drop-replaced_at, SameOn-replaced_before, SameOn-replaced_behind}
use Rattle.ostore_schema_layout.specs.declared.schema.MemberKind.{MemberKind}
use Rattle.ostore_schema_layout.specs.Cells.{in_fours, kind_size, place_end, places_from}
use Rattle.ostore_schema_layout.specs.Numbers.{members_of}
use Rattle.ostore_graph_model.specs.declared.values.Scalar.TheVariants as scalars
use Rattle.ostore_graph_model.specs.MemberValues.{text_at, held_at}
use Rattle.ostore_graph_model.specs.Records.{slot_of, is_sized}
use Rattle.ostore_graph_model.specs.CellRules.{is_text_written, is_kind_written, is_member_written, is_code_written, is_filled}
use Rattle.ostore_graph_model.specs.PageEdits.{stored_text}
use Rattle.ostore_graph_model.specs.LawsOfMeaning.{LawOfTexts}
use Rattle.ostore_graph_model.proofs.MemberLaws.{IsWithin, text_room}
use Rattle.ostore_graph_model.proofs.WrittenLaws.{object_code_written}
use Rattle.ostore_graph_model.proofs.MemberEdits.{cell_sized, place_within}
use Rattle.ostore_graph_model.proofs.ValueLaws.{value_law, held_by_command}

-- ---- lists of bytes

all_at : {X : Type 0} (f : X → Bool) (xs : List X) (i : ℕ) (x : X) → list_all f xs ≡ true → slice_get xs i ≡ Some x → f x ≡ true
all_at f [] i x all e = absurd (none-some x e)
all_at f (y ∷ xs) zero x all e = subst (λ z. f z ≡ true) (same_Some y x e) (and_parts (f y) (list_all f xs) all).0
all_at f (y ∷ xs) (suc i) x all e = all_at f xs i x (and_parts (f y) (list_all f xs) all).1 e

number_one : (x : ℕ) (xs : List ℕ) → little_number 1 (x ∷ xs) ≡ x
number_one x xs = omega arith

zeros_are_zero : (n : ℕ) → are_zero (replicate n 0) ≡ true
zeros_are_zero zero = refl
zeros_are_zero (suc n) = zeros_are_zero n

-- ---- a stored text

module _ (max : ℕ) (text : List ℕ) (short : length text ≤ max) (at : ℕ) (old : List ℕ) (within : at + in_fours (1 + max) ≤ length old) where
  abbrev fill : ℕ
  fill = in_fours (1 + max) - 1 - length text

  abbrev new : List ℕ
  new = replaced at (stored_text max text) old

  abbrev rest : List ℕ
  rest = drop (at + length (stored_text max text)) old

  pub long : length (stored_text max text) ≡ in_fours (1 + max)
  long =
      let room = text_room max in
      let parts = length-append text (replicate (in_fours (1 + max) - 1 - length text) 0) in
      let zeros : length {A = ℕ} (replicate (in_fours (1 + max) - 1 - length text) 0) ≡ in_fours (1 + max) - 1 - length text = length-replicate (in_fours (1 + max) - 1 - length text) 0 in
      omega arith

  drop_new : drop at new ≡ stored_text max text ++ rest
  drop_new = let size = long in drop-replaced_at at (stored_text max text) old (omega arith)

  count_read : number_at 1 at new ≡ length text
  count_read = ap (little_number 1) drop_new ∙ number_one (length text) ((text ++ replicate fill 0) ++ rest)

  behind_count : drop (at + 1) new ≡ text ++ (replicate fill 0 ++ rest)
  behind_count =
      sym (drop-drop 1 at new)
      ∙ ap (drop 1) drop_new
      ∙ append_assoc text (replicate fill 0) rest

  pub text_read : text_at at max new ≡ text
  text_read =
      let size : at + 1 + max - (at + 1) ≡ max = omega arith in
      ap₂ (λ (n m : ℕ). take n (take m (drop (at + 1) new))) count_read size
      ∙ take-take (length text) max (drop (at + 1) new) short
      ∙ ap (take (length text)) behind_count
      ∙ take-append_seam text (replicate fill 0 ++ rest)

  zeros_behind : between (at + 1 + length text) (at + in_fours (1 + max)) new ≡ replicate fill 0
  zeros_behind =
      let room = text_room max in
      let size : at + in_fours (1 + max) - (at + 1 + length text) ≡ length (replicate {A = ℕ} fill 0) = omega (arith, length-replicate {A = ℕ} fill 0) in
      ap₂ (λ (n : ℕ) (l : List ℕ). take n l) size
      (sym (drop-drop (length text) (at + 1) new) ∙ ap (drop (length text)) behind_count ∙ drop-append_seam text (replicate fill 0 ++ rest))
      ∙ take-append_seam (replicate fill 0) rest

  pub text_written : is_utf8 text ≡ true → is_text_written max at (at + in_fours (1 + max)) new ≡ true
  text_written utf8 =
      and_from _ _
      (and_from _ _ (ap (λ (n : ℕ). leb n max) count_read ∙ le-leb (length text) max short) (ap is_utf8 text_read ∙ utf8))
      (ap (λ (n : ℕ). are_zero (between (at + 1 + n) (at + in_fours (1 + max)) new)) count_read ∙ ap are_zero zeros_behind ∙ zeros_are_zero fill)

-- ---- the law

pub text_law : LawOfTexts
text_law schema old new address member cell place max text graph object at holds write got found =
    let cells = holds.cells_kept in
    let short = write.short in
    let sized = cell_sized schema old address cell cells write.has.there in
    let in_cell : place_end place ≤ length cell.bytes = place_within schema old address member cell place write.has sized in
    let size : place_end place ≡ place.offset + in_fours (1 + max) = ap (λ (k : MemberKind). place.offset + kind_size k) write.kind in
    let within : place.offset + in_fours (1 + max) ≤ length cell.bytes = omega arith in
    let bytes : List ℕ = replaced place.offset (stored_text max text) cell.bytes in
    let whole = long max text short place.offset cell.bytes within in
    let apart : IsWithin bytes cell.bytes place = record {
      whole = length-replaced_within place.offset (stored_text max text) cell.bytes (omega arith);
      before = SameOn-replaced_before place.offset 0 place.offset (stored_text max text) cell.bytes (omega arith) (omega arith);
      behind = SameOn-replaced_behind place.offset (place_end place) (length cell.bytes) (stored_text max text) cell.bytes (omega arith) (omega arith);
    } in
    let was : is_member_written cell.bytes place ≡ true = all_at (is_member_written cell.bytes) (places_from 0 (members_of schema cell.code)) member place
    (sym (object_code_written schema cell.code cell.bytes write.has.typed)
    ∙ sym (ap (λ b. cond b (is_code_written schema cell.code cell.bytes) (are_zero cell.bytes)) write.has.live)
    ∙ (and_parts (is_sized schema cell.code cell.bytes) (is_filled schema cell) (cells.written address cell write.has.there)).1)
    write.has.lies in
    held_by_command schema old new cell member (scalars.Text text) graph object at got found
    (value_law schema old new address member cell place bytes (scalars.Text text) (record {
      edit = record { edits = write.edits; has = write.has; sized = sized; within = apart };
      reads = ap (held_at bytes place.offset) write.kind ∙ ap (λ t. Some (scalars.Text t)) (text_read max text short place.offset cell.bytes within);
      slot = ap (slot_of bytes place.offset) write.kind ∙ sym (ap (slot_of cell.bytes place.offset) write.kind);
      fine = ap (is_kind_written bytes place.offset) write.kind ∙ text_written max text short place.offset cell.bytes within write.utf8 ∙ sym was;
    }) graph object holds got)
