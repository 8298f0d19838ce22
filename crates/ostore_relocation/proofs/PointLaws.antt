-- A pointer that is written into a resident image is written, in its stored form, into the stored form.
use Rattle.std.proofs.Common.{◌≡◌, ◌≢◌, ℕ, ◌+◌, ◌^◌, ◌<◌, ◌≤◌, List, [], ◌∷◌, length, Option, None, sym, ap, subst, ◌∙◌, arith, inl, inr}
use Rattle.std.specs.List.{AllByRecursion}
use Rattle.byteorder.specs.Endian.{little_bytes}
use Rattle.byteorder.specs.Numbers.{length-bytes_low_first}
use Rattle.ostore_base.specs.declared.numbers.PageNo.{PageNo}
use Rattle.ostore_schema_layout.specs.declared.schema.Schema.{Schema}
use Rattle.ostore_page_tags.specs.Numbers.{number_at, with_number}
use Rattle.ostore_page_tags.proofs.bytes.ImageLaws.{number_at-same, number_at-with_number, length-with_number, SameOn-replaced_before, SameOn-replaced_behind}
use Rattle.ostore_address_space.specs.Frames.{page_in}
use Rattle.ostore_relocation.specs.Places.{IsBeside, IsOneOf, IsOutside, LieBetween, page_pointers}
use Rattle.ostore_relocation.specs.Pointers.{stored_pointer, target, with_pointers}
use Rattle.ostore_relocation.specs.Forms.{IsResidentPage, pointers_end, stored_form}
use Rattle.ostore_relocation.specs.Stores.{LeadsToFrame, StoresAs}
use Rattle.ostore_relocation.proofs.PlaceLaws.{lie_order}
use Rattle.ostore_relocation.proofs.PageLaws.{end_low}
use Rattle.ostore_relocation.proofs.StoreLaws.{beside_later, pointer_all}
use Rattle.ostore_relocation.proofs.OutsideLaws.{SameOutside, leave_names, same_end, same_pointers}
use Rattle.ostore_relocation.proofs.BesideLaws.{Leads, leads_beside}

outside_one : (k at : ℕ) (places : List ℕ) → IsOneOf at places → AllByRecursion (IsOutside k) places → IsOutside k at
outside_one k at [] there out = absurd there
outside_one k at (place ∷ places) (inl here) out = subst (IsOutside k) here out.0
outside_one k at (place ∷ places) (inr later) out = outside_one k at places later out.1

low_one : (low high at : ℕ) (places : List ℕ) → LieBetween low places high → IsOneOf at places → (low ≤ at) × (at + 4 ≤ high)
low_one low high at [] lie there = absurd there
low_one low high at (place ∷ places) lie (inl here) = let l = lie.0 in let o = lie_order (place + 4) high places lie.1 in (omega arith, omega arith)
low_one low high at (place ∷ places) lie (inr later) = let l = lie.0 in let rest = low_one (place + 4) high at places lie.1 later in let a = rest.0 in (omega arith, rest.1)

leads_with : (pages : List (Option PageNo)) (low high at pointer : ℕ) (held places : List ℕ) → LieBetween low places high → high ≤ length held → pointer < 256 ^ 4 → LeadsToFrame pages pointer → IsOneOf at places → AllByRecursion (Leads pages held) places
    → AllByRecursion (Leads pages (with_number 4 at pointer held)) places
leads_with pages low high at pointer held [] lie room fits leads there all = absurd there
leads_with pages low high at pointer held (place ∷ places) lie room fits leads (inl here) all =
    let order : place + 4 ≤ high = lie_order (place + 4) high places lie.1 in
    let size = length-bytes_low_first 0 4 pointer in
    let four : length (little_bytes 4 pointer) ≡ 4 = size in
    let read : number_at 4 place (with_number 4 at pointer held) ≡ pointer = ap (λ (n : ℕ). number_at 4 n (with_number 4 at pointer held)) here ∙ number_at-with_number 4 at pointer held fits (omega arith) in
    let beside : AllByRecursion (IsBeside at (length (little_bytes 4 pointer))) places = subst (λ (n : ℕ). AllByRecursion (IsBeside at n) places) (sym four) (beside_later (place + 4) high at places (omega arith) lie.1) in (
      subst (λ (v : ℕ). v ≢ 0 → page_in pages (target v) ≢ None) (sym read) leads,
      leads_beside pages at (place + 4) high (little_bytes 4 pointer) held places (omega arith) lie.1 room beside all.1,
    )
leads_with pages low high at pointer held (place ∷ places) lie room fits leads (inr later) all =
    let bounds = low_one (place + 4) high at places lie.1 later in
    let past : place + 4 ≤ at = bounds.0 in
    let end : at + 4 ≤ high = bounds.1 in
    let size = length-bytes_low_first 0 4 pointer in
    let read : number_at 4 place (with_number 4 at pointer held) ≡ number_at 4 place held = number_at-same 4 place (with_number 4 at pointer held) held (SameOn-replaced_before at place (place + 4) (little_bytes 4 pointer) held past (omega arith)) in (
      subst (λ (v : ℕ). v ≢ 0 → page_in pages (target v) ≢ None) (sym read) all.0,
      leads_with pages (place + 4) high at pointer held places lie.1 room fits leads later all.1,
    )

pub puts_pointer : (pages : List (Option PageNo)) (schema : Schema) (page at pointer : ℕ) (held : List ℕ) → IsResidentPage pages schema page held → IsOneOf at (page_pointers schema page held) → pointer < 256 ^ 4 → LeadsToFrame pages pointer
    → StoresAs pages schema page (with_number 4 at pointer held) (with_number 4 at (stored_pointer pages pointer) (stored_form pages schema page held))
puts_pointer pages schema page at pointer held is there fits leads =
    let places : List ℕ = page_pointers schema page held in
    let high = end_low page held in
    let whole = is.whole in
    let bounds = low_one 32 (pointers_end page held) at places is.lie there in
    let end : at + 4 ≤ pointers_end page held = bounds.1 in
    let size = length-bytes_low_first 0 4 pointer in
    let new : List ℕ = with_number 4 at pointer held in
    let long : length new ≡ length held = length-with_number 4 at pointer held (omega arith) in
    let same : SameOutside places new held = record {
      long = long;
      bytes = λ k out. elim (outside_one k at places there out) [
        | inl before ↦ (SameOn-replaced_before at k (k + 1) (little_bytes 4 pointer) held (omega arith) (omega arith)).bytes k (omega arith) (omega arith)
        | inr behind ↦ (SameOn-replaced_behind at k (k + 1) (little_bytes 4 pointer) held (omega arith) (omega arith)).bytes k (omega arith) (omega arith)
      ];
    } in
    let lists : page_pointers schema page new ≡ places = same_pointers schema page places new held (leave_names schema page held) is.lie same in
    let ends : pointers_end page new ≡ pointers_end page held = same_end page places new held is.lie same in
    record {
      form = ap (λ (l : List ℕ). with_pointers (stored_pointer pages) l new) lists ∙ pointer_all (stored_pointer pages) 32 (pointers_end page held) at pointer places held is.lie (omega arith) fits there;
      resident = record {
        whole = long ∙ whole;
        lie = subst (λ (l : List ℕ). LieBetween 32 l (pointers_end page new)) (sym lists) (subst (LieBetween 32 places) (sym ends) is.lie);
        frames = subst (AllByRecursion (Leads pages new)) (sym lists) (leads_with pages 32 (pointers_end page held) at pointer held places is.lie (omega arith) fits leads there is.frames);
      };
    }
