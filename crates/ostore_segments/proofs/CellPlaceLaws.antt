-- Bytes of a cell lie in its page.
use Rattle.std.proofs.Common.{ℕ, ◌+◌, ◌≤◌, List, length, arith}
use Rattle.std.proofs.lemmas.List.Elements.{All-contains}
use Rattle.ostore_base.specs.declared.page.PageImage.{PageImage}
use Rattle.ostore_page_tags.specs.Header.{header_of}
use Rattle.ostore_page_tags.specs.Cells.{Cell, cells_of}
use Rattle.ostore_page_tags.specs.PageLists.{bytes_at}
use Rattle.ostore_page_tags.proofs.parts.ApartLaws.{IsPage-AreApart}
use Rattle.ostore_page_tags.proofs.shape.PageShape.{IsPage-shape}
use Rattle.ostore_segments.specs.Holdings.{PagesTold}
use Rattle.ostore_segments.specs.Edits.{HasBytesInCell}

pub in_page : (told : PagesTold) (page offset at n : ℕ) (list : List PageImage) → HasBytesInCell told page offset at n list → offset + at + n ≤ 4096
in_page told page offset at n list has =
    let apart = IsPage-AreApart (bytes_at list page) has.good in
    let shape = IsPage-shape (bytes_at list page) has.good in
    let room = shape.room in
    let end = All-contains (λ (cell : Cell). cell.row.offset + length cell.bytes ≤ (header_of (bytes_at list page)).end) (cells_of (bytes_at list page)) has.cell apart.within has.there in
    let begins = has.begins in
    let within = has.within in
    omega arith
