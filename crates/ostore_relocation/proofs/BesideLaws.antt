-- Bytes that are put beside the pointers of a resident image are put there in its stored form.
use Rattle.std.proofs.Common.{◌≡◌, ◌≢◌, ℕ, ◌+◌, ◌≤◌, List, [], ◌∷◌, ◌++◌, length, Option, None, refl, sym, ap, subst, ◌∙◌, arith, inl, inr}
use Rattle.std.specs.List.{AllByRecursion}
use Rattle.ostore_base.specs.Disk.{replaced}
use Rattle.ostore_base.specs.declared.numbers.PageNo.{PageNo}
use Rattle.ostore_schema_layout.specs.declared.schema.Schema.{Schema}
use Rattle.ostore_page_tags.specs.Numbers.{number_at}
use Rattle.ostore_page_tags.proofs.bytes.ImageLaws.{number_at-same, length-replaced_within, SameOn-replaced_before, SameOn-replaced_behind}
use Rattle.ostore_address_space.specs.Frames.{AreFrames, page_in}
use Rattle.ostore_relocation.specs.Places.{IsBeside, LieBetween, page_pointers}
use Rattle.ostore_relocation.specs.Pointers.{stored_pointer, target, with_pointers}
use Rattle.ostore_relocation.specs.Forms.{IsResidentPage, pointers_end, stored_form}
use Rattle.ostore_relocation.specs.Stores.{PutsBeside, StoresAs}
use Rattle.ostore_relocation.proofs.PlaceLaws.{lie_higher, lie_order}
use Rattle.ostore_relocation.proofs.PageLaws.{changed_append, end_low}
use Rattle.ostore_relocation.proofs.StoreLaws.{beside_all}
use Rattle.ostore_relocation.proofs.ZeroLaws.{all_both, all_one_of, apart_runs, lie_back, lie_front, zero_of, zeros_stay}
use Rattle.ostore_relocation.proofs.OutsideLaws.{SameOutside, has_form, leave_names, same_end, same_pointers, same_replaced}

-- a pointer leads to a page's frame
abbrev pub Leads : List (Option PageNo) → List ℕ → ℕ → Type 0
Leads pages bytes at = number_at 4 at bytes ≢ 0 → page_in pages (target (number_at 4 at bytes)) ≢ None

pub leads_beside : (pages : List (Option PageNo)) (at low high : ℕ) (bytes held places : List ℕ) → at + length bytes ≤ length held → LieBetween low places high → high ≤ length held → AllByRecursion (IsBeside at (length bytes)) places → AllByRecursion (Leads pages held) places
    → AllByRecursion (Leads pages (replaced at bytes held)) places
leads_beside pages at low high bytes held [] within lie room beside all = tt
leads_beside pages at low high bytes held (place ∷ places) within lie room beside all =
    let order : place + 4 ≤ high = lie_order (place + 4) high places lie.1 in
    let read : number_at 4 place (replaced at bytes held) ≡ number_at 4 place held = number_at-same 4 place (replaced at bytes held) held (elim beside.0 [
      | inl early ↦ SameOn-replaced_before at place (place + 4) bytes held early within
      | inr late ↦ SameOn-replaced_behind at place (place + 4) bytes held late within
    ]) in
    (subst (λ (v : ℕ). v ≢ 0 → page_in pages (target v) ≢ None) (sym read) all.0, leads_beside pages at (place + 4) high bytes held places within lie.1 room beside.1 all.1)

pub puts_beside : (pages : List (Option PageNo)) (schema : Schema) (page at : ℕ) (bytes held : List ℕ) → AreFrames pages → IsResidentPage pages schema page held → PutsBeside schema page at bytes (stored_form pages schema page held)
    → StoresAs pages schema page (replaced at bytes held) (replaced at bytes (stored_form pages schema page held))
puts_beside pages schema page at bytes held are is puts =
    let f : ℕ → ℕ = stored_pointer pages in
    let old : List ℕ = page_pointers schema page held in
    let was : List ℕ = stored_form pages schema page held in
    let form = has_form pages schema page held are is in
    let whole = is.whole in
    let long = form.long in
    let within = puts.within in
    let new : List ℕ = replaced at bytes held in
    let now : List ℕ = replaced at bytes was in
    let new_long = length-replaced_within at bytes held (omega arith) in
    let now_long = length-replaced_within at bytes was (omega arith) in
    let same : SameOutside old held was = record { long = sym form.long; bytes = λ k out. sym (form.outside k out) } in
    let same_new : SameOutside old new now = same_replaced old held was bytes at (omega arith) same in
    let lists : page_pointers schema page now ≡ old ++ puts.added = puts.places ∙ ap (λ (l : List ℕ). l ++ puts.added) form.places in
    let end : ℕ = pointers_end page now in
    let low = end_low page now in
    let lie : LieBetween 32 (old ++ puts.added) end = subst (λ (l : List ℕ). LieBetween 32 l end) lists puts.lie in
    let front : LieBetween 32 old end = lie_front 32 end old puts.added lie in
    let places : page_pointers schema page new ≡ old ++ puts.added = same_pointers schema page old new now (leave_names schema page held) front same_new ∙ lists in
    let beside : AllByRecursion (IsBeside at (length bytes)) old = subst (λ (l : List ℕ). AllByRecursion (IsBeside at (length bytes)) l) form.places puts.beside in
    let high = end_low page held in
    let lie_old : LieBetween 32 old 4096 = lie_higher 32 (pointers_end page held) 4096 old high is.lie in
    record {
      form =
          ap (λ (l : List ℕ). with_pointers f l new) places ∙ changed_append f old puts.added new
          ∙ ap (with_pointers f puts.added) (beside_all f 32 4096 at old bytes held lie_old (omega arith) (omega arith) beside)
          ∙ zeros_stay f 32 end puts.added now refl (lie_back 32 end old puts.added lie) (omega arith) puts.zeros;
      resident = record {
        whole = new_long ∙ whole;
        lie = subst (λ (l : List ℕ). LieBetween 32 l (pointers_end page new)) (sym places) (subst (LieBetween 32 (old ++ puts.added)) (sym (same_end page old new now front same_new)) lie);
        frames = subst (AllByRecursion (Leads pages new)) (sym places) (all_both (Leads pages new) old puts.added
            (leads_beside pages at 32 4096 bytes held old (omega arith) lie_old (omega arith) beside is.frames)
            (all_one_of (Leads pages new) puts.added (λ a there.
            let read : number_at 4 a new ≡ number_at 4 a now = number_at-same 4 a new now (record { bytes = λ k from to. same_new.bytes k (apart_runs 32 end k old puts.added lie a from there) }) in
            λ some. absurd (some (read ∙ zero_of now puts.added a puts.zeros there)))));
      };
    }
