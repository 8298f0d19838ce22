-- What an edit of a page leaves.
use Rattle.std.proofs.Common.{◌≡◌, ◌≢◌, ℕ, ◌+◌, ◌<◌, List, [], ◌++◌, length, get_or, set, take, drop, Some, sym, ap, ◌∙◌}
use Rattle.std.specs.List.{slice_get}
use Rattle.std.proofs.lemmas.List.{append_assoc, drop-drop, length-set, get_or-set_same, get_or-set_other}
use Rattle.std.proofs.lemmas.Option.{get_or_from_slice_get}
use borrow.Rule.Slice.PartMut.{put_mid}
use Rattle.ostore_base.specs.Disk.{replaced}
use Rattle.ostore_base.specs.declared.page.PageImage.{PageImage}
use Rattle.ostore_page_tags.specs.PageLists.{bytes_at, with_bytes}

put_mid-whole : (at : ℕ) (held bytes : List ℕ) → put_mid at (length bytes) held bytes ≡ replaced at bytes held
put_mid-whole at held bytes = ap (λ rest. take at held ++ (bytes ++ rest)) (drop-drop (length bytes) at held) ∙ sym (append_assoc (take at held) bytes (drop (at + length bytes) held))

pub plain_edit : (old new : List PageImage) (page at start size : ℕ) (bytes part : List ℕ) (image : PageImage) → start ≡ at → size ≡ length bytes → slice_get old page ≡ Some image → part ≡ bytes
    → new ≡ set old page (record { bytes = put_mid start size image.bytes part }) → new ≡ with_bytes old page at bytes
plain_edit old new page at start size bytes part image begin long here same written =
    let held : image ≡ get_or old page (record { bytes = [] }) = sym (get_or_from_slice_get old page image (record { bytes = [] }) here) in
    written
    ∙ ap (λ (b : List ℕ). set old page (record { bytes = b }))
    (ap (λ a. put_mid a size image.bytes part) begin ∙ ap (λ n. put_mid at n image.bytes part) long ∙ ap (λ p. put_mid at (length bytes) image.bytes p) same ∙ put_mid-whole at image.bytes bytes
    ∙ ap (λ (i : PageImage). replaced at bytes i.bytes) held)

pub edited_length : (list : List PageImage) (page at : ℕ) (bytes : List ℕ) → length (with_bytes list page at bytes) ≡ length list
edited_length list page at bytes = length-set list page _

pub edited_here : (list : List PageImage) (page at : ℕ) (bytes : List ℕ) → page < length list → bytes_at (with_bytes list page at bytes) page ≡ replaced at bytes (bytes_at list page)
edited_here list page at bytes below = ap (λ (i : PageImage). i.bytes) (get_or-set_same list page _ (record { bytes = [] }) below)

pub edited_other : (list : List PageImage) (page at other : ℕ) (bytes : List ℕ) → other ≢ page → bytes_at (with_bytes list page at bytes) other ≡ bytes_at list other
edited_other list page at other bytes apart = ap (λ (i : PageImage). i.bytes) (get_or-set_other list page other _ (record { bytes = [] }) apart)
