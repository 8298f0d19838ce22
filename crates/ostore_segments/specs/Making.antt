-- A new object's cell.
use Rattle.std.specs.Prelude.{◌≡◌, ℕ, ◌+◌, ◌<◌, ◌≤◌, ◌%◌, IsTrue, List}
use Rattle.ostore_base.specs.declared.page.PageImage.{PageImage}
use Rattle.ostore_page_tags.specs.declared.layout.TheConstants.{CELL_STEP, ROW_BYTES}
use Rattle.ostore_page_tags.specs.Limits.{largest_cell}
use Rattle.ostore_page_tags.specs.Rules.{is_type_code}
use Rattle.ostore_page_tags.specs.PageLists.{header_at}
use Rattle.ostore_segments.specs.Serials.{Draws}
use Rattle.ostore_segments.specs.Placing.{Places}
use Rattle.ostore_segments.specs.Adding.{Adds}

-- the size and code of an object's cell
pub record IsObjectAsked (size code : ℕ) : Type 0 where
  pub some : 0 < size
  pub fours : size % CELL_STEP ≡ 0
  pub most : size ≤ largest_cell
  pub ty : IsTrue (is_type_code code)

-- a serial is drawn, and then a cell is added
pub record DrawsAndAdds (old new : List PageImage) (segment page size code serial offset : ℕ)
    : Type 0 where
  pub middle : List PageImage
  pub drawn : Draws old middle segment serial
  pub at : offset ≡ (header_at middle page).end
  pub added : Adds middle new page size code serial

-- a new object's cell: its place, its serial and its row
pub record Makes (old new : List PageImage) (segment page size code serial offset : ℕ)
    : Type 0 where
  pub middle : List PageImage
  pub placed : Places old middle segment (size + ROW_BYTES) page
  pub made : DrawsAndAdds middle new segment page size code serial offset
