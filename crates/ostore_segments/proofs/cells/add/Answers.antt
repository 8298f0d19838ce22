use Rattle.std.proofs.Common.{rules, ◌≡◌, ℕ, ◌+◌, ◌-◌, ◌*◌, List, ap, sym, subst, arith, ◌∙◌}
use Rattle.ostore_page_tags.specs.PageLists.{header_at, with_bytes}
use Rattle.ostore_segments.specs.Holdings.{PagesTold}
use Rattle.ostore_segments.specs.Edits.{CanPut}
use Rattle.ostore_segments.specs.Adding.{Adds}
use Rattle.ostore_segments.specs.inside.Fields.{row_of_live}
use Rattle.ostore_segments.proofs.ListSteps.{Stands-seen, Stands-weaker, Stands-now, Stands-edited, Becomes-weaker, Becomes-changed, Becomes-edit}
use Rattle.ostore_segments.proofs.AddingLaws.{can_add, room_headed, add_fits, add_edit_one, add_edit_two, add_adds}
use Rattle.ostore_segments.proofs.ViewLaws.{brings_then, rests_breaks, breaks_then}
use Rattle.ostore_segments.proofs.OwnLaws.{owns_then, owns_later}
use Rattle.ostore_segments.proofs.cells.add.Goals as goal

pub header_at-requires : goal.header_at-requires
header_at-requires g c = Stands-weaker (λ list room. room_headed list _ c.args.page.0 room) c.requires.room

pub overflow_add-place : goal.overflow_add-place
overflow_add-place g c =
    let fits = Stands-now (λ list known. add_fits c.args.page.0 c.args.size c.args.code c.args.serial c.in_ok-header.header list (can_add _ _ _ _ _ list c.requires.asked (omega arith) (omega arith) known.0 known.1)) (Stands-seen c.requires.room c.in_ok-header.ensures.seen) in
    omega arith

pub overflow_mul-place : goal.overflow_mul-place
overflow_mul-place g c =
    let fits = Stands-now (λ list known. add_fits c.args.page.0 c.args.size c.args.code c.args.serial c.in_ok-header.header list (can_add _ _ _ _ _ list c.requires.asked (omega arith) (omega arith) known.0 known.1)) (Stands-seen c.requires.room c.in_ok-header.ensures.seen) in
    omega arith

pub overflow_sub-place : goal.overflow_sub-place
overflow_sub-place g c =
    let fits = Stands-now (λ list known. add_fits c.args.page.0 c.args.size c.args.code c.args.serial c.in_ok-header.header list (can_add _ _ _ _ _ list c.requires.asked (omega arith) (omega arith) known.0 known.1)) (Stands-seen c.requires.room c.in_ok-header.ensures.seen) in
    omega arith

pub overflow_add-header : goal.overflow_add-header
overflow_add-header g c =
    let fits = Stands-now (λ list known. add_fits c.args.page.0 c.args.size c.args.code c.args.serial c.in_ok-header.header list (can_add _ _ _ _ _ list c.requires.asked (omega arith) (omega arith) known.0 known.1)) (Stands-seen c.requires.room c.in_ok-header.ensures.seen) in
    omega arith

pub overflow_add-header-2 : goal.overflow_add-header-2
overflow_add-header-2 g c =
    let fits = Stands-now (λ list known. add_fits c.args.page.0 c.args.size c.args.code c.args.serial c.in_ok-header.header list (can_add _ _ _ _ _ list c.requires.asked (omega arith) (omega arith) known.0 known.1)) (Stands-seen c.requires.room c.in_ok-header.ensures.seen) in
    omega arith

pub edit-requires-clause-puts : goal.edit-requires-clause-puts
edit-requires-clause-puts g c =
    Stands-weaker
    (λ list known. subst (λ (bytes : List ℕ). CanPut (g.P.Pages.told c.header_at.new.pages) c.args.page.0 (4096 - 8 * (c.in_ok-header.header.rows + 1)) bytes list) (sym c.row_bytes.ensures)
    (add_edit_one c.args.page.0 c.args.size c.args.code c.args.serial c.in_ok-header.header list (can_add _ _ _ _ _ list c.requires.asked (omega arith) (omega arith) known.0 known.1) (g.P.Pages.told c.header_at.new.pages)))
    (Stands-seen c.requires.room c.in_ok-header.ensures.seen)

pub edit-requires-2-clause-puts : goal.edit-requires-2-clause-puts
edit-requires-2-clause-puts g c =
    Stands-edited (Stands-seen c.requires.room c.in_ok-header.ensures.seen)
    (λ list known. subst (λ (bytes : List ℕ). CanPut (g.P.Pages.told c.edit.new.self) c.args.page.0 2 bytes (with_bytes list c.args.page.0 (4096 - 8 * (c.in_ok-header.header.rows + 1)) (row_of_live c.in_ok-header.header.end c.args.code c.args.serial))) (sym c.counts.ensures)
    (add_edit_two c.args.page.0 c.args.size c.args.code c.args.serial c.in_ok-header.header list (can_add _ _ _ _ _ list c.requires.asked (omega arith) (omega arith) known.0 known.1) (g.P.Pages.told c.edit.new.self)
    (ap (λ (told : PagesTold). told.sizes c.args.code) (c.in_ok-edit.ensures.told ∙ c.in_ok-header.ensures.told) ∙ c.requires.size)))
    (Becomes-weaker (λ old new there written. written ∙ ap (with_bytes old c.args.page.0 (4096 - 8 * (c.in_ok-header.header.rows + 1))) c.row_bytes.ensures) c.in_ok-edit.ensures.lists)

pub returns-clause-lists : goal.returns-clause-lists
returns-clause-lists g c =
    Becomes-changed c.requires.room c.in_ok-header.ensures.seen
    (λ old new known seen written. subst (λ list. (c.in_ok-header.header.end ≡ (header_at old c.args.page.0).end) × Adds old list c.args.page.0 c.args.size c.args.code c.args.serial) (sym written)
    (add_adds c.args.page.0 c.args.size c.args.code c.args.serial c.in_ok-header.header old (can_add _ _ _ _ _ old c.requires.asked (omega arith) (omega arith) known seen)))
    (Becomes-edit (Becomes-weaker (λ old new there written. written ∙ ap (with_bytes old c.args.page.0 (4096 - 8 * (c.in_ok-header.header.rows + 1))) c.row_bytes.ensures) c.in_ok-edit.ensures.lists)
    (Becomes-weaker (λ old new there written. written ∙ ap (with_bytes old c.args.page.0 2) c.counts.ensures) c.in_ok-edit-2.ensures.lists))

pub returns-in_err-edit-2-clause-fails : goal.returns-in_err-edit-2-clause-fails
returns-in_err-edit-2-clause-fails g c =
    let failed = g.met.P.Pages.fails_later _ _ _ _ (g.met.P.Pages.passes_on _ _ _ c.in_ok-header.ensures.passes c.in_ok-edit.ensures.passes) c.in_err-edit-2.ensures.fails in
    search rules

pub returns-clause-passes : goal.returns-clause-passes
returns-clause-passes g c = g.met.P.Pages.passes_on _ _ _ (g.met.P.Pages.passes_on _ _ _ c.in_ok-header.ensures.passes c.in_ok-edit.ensures.passes) c.in_ok-edit-2.ensures.passes

pub returns-clause-brings : goal.returns-clause-brings
returns-clause-brings g c = brings_then (brings_then c.in_ok-header.ensures.brings c.in_ok-edit.ensures.brings) c.in_ok-edit-2.ensures.brings

pub returns-in_err-header-clause-stays : goal.returns-in_err-header-clause-stays
returns-in_err-header-clause-stays g c =
    let failed = rests_breaks {N = λ list named. named ≡ c.args.page.0} c.in_err-header.ensures.stays in
    search rules

pub returns-in_err-edit-clause-stays : goal.returns-in_err-edit-clause-stays
returns-in_err-edit-clause-stays g c =
    let failed = breaks_then c.in_ok-header.ensures.seen c.in_ok-header.ensures.brings (rests_breaks c.in_err-edit.ensures.stays) in
    search rules

pub returns-in_err-edit-2-clause-stays : goal.returns-in_err-edit-2-clause-stays
returns-in_err-edit-2-clause-stays g c =
    let failed = breaks_then c.in_ok-header.ensures.seen c.in_ok-header.ensures.brings (breaks_then c.in_ok-edit.ensures.lists c.in_ok-edit.ensures.brings (rests_breaks c.in_err-edit-2.ensures.stays)) in
    search rules

pub returns-clause-owns : goal.returns-clause-owns
returns-clause-owns g c = owns_later c.in_ok-header.ensures.owns (owns_then c.in_ok-edit.ensures.owns c.in_ok-edit-2.ensures.owns)
