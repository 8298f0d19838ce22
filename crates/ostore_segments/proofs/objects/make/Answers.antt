use Rattle.std.proofs.Common.{List, rules, ap, Ok, Err, arith, ◌∙◌}
use Rattle.ostore_base.specs.declared.numbers.PageNo.{PageNo}
use Rattle.ostore_base.specs.declared.page.PageImage.{PageImage}
use Rattle.ostore_segments.specs.Holdings.{PagesTold}
use Rattle.ostore_segments.specs.Naming.{IsWantedIn}
use Rattle.ostore_segments.proofs.ListSteps.{Stands-both, Becomes-stands, Becomes-then, Becomes-weaker}
use Rattle.ostore_segments.proofs.MakeLaws.{open_placed, placed_is, placed_left, makes}
use Rattle.ostore_segments.proofs.ViewLaws.{each_then, breaks_later}
use Rattle.ostore_segments.proofs.NamingLaws.{kept_named, back_placed}
use Rattle.ostore_segments.proofs.OwnLaws.{each_owns_then}
use Rattle.ostore_segments.proofs.objects.make.Goals as goal

pub make_on-requires-clause-size : goal.make_on-requires-clause-size
make_on-requires-clause-size g c = ap (λ (told : PagesTold). told.sizes c.args.code) c.in_ok-page.ensures.told ∙ c.requires.size

pub make_on-requires-clause-placed : goal.make_on-requires-clause-placed
make_on-requires-clause-placed g c =
    let most = c.requires.asked.most in
    Becomes-stands c.requires.allocated (λ old new fine placed. placed_is old new c.args.segment _ c.in-Ok.page.0 fine (omega arith) placed)
    (open_placed c.args.segment _ c.in_ok-page.field-0 (Ok c.in-Ok.page) c.in-Ok.is c.in_ok-page.ensures.lists)

pub make_on-requires-clause-left : goal.make_on-requires-clause-left
make_on-requires-clause-left g c =
    let most = c.requires.asked.most in
    Becomes-stands (Stands-both c.requires.allocated c.requires.left) (λ old new known placed. placed_left old new c.args.segment _ c.in-Ok.page.0 c.requires.segment (omega arith) known.0 known.1 placed)
    (open_placed c.args.segment _ c.in_ok-page.field-0 (Ok c.in-Ok.page) c.in-Ok.is c.in_ok-page.ensures.lists)

pub returns-in_ok-make_on-in-Ok-clause-lists : goal.returns-in_ok-make_on-in-Ok-clause-lists
returns-in_ok-make_on-in-Ok-clause-lists g c =
    Becomes-weaker (λ old new there step. makes old new c.args.segment c.in-Ok.page.0 _ c.args.size c.args.code c.in_ok-make_on-in-Ok.field-0.serial c.in_ok-make_on-in-Ok.field-0.offset (ap (λ (page : PageNo). page.0) c.in_ok-make_on-in-Ok.ensures.page) step)
    (Becomes-then (open_placed c.args.segment _ c.in_ok-page.field-0 (Ok c.in-Ok.page) c.in-Ok.is c.in_ok-page.ensures.lists) c.in_ok-make_on-in-Ok.ensures.lists)

pub returns-in-Err-clause-lists : goal.returns-in-Err-clause-lists
returns-in-Err-clause-lists g c = open_placed c.args.segment _ c.in_ok-page.field-0 (Err c.in-Err.no) c.in-Err.is c.in_ok-page.ensures.lists

pub returns-in_err-make_on-in-Ok-clause-fails : goal.returns-in_err-make_on-in-Ok-clause-fails
returns-in_err-make_on-in-Ok-clause-fails g c =
    let failed = g.met.P.Pages.fails_later _ _ _ _ c.in_ok-page.ensures.passes c.in_err-make_on-in-Ok.ensures.fails in
    search rules

pub returns-in_ok-make_on-in-Ok-clause-brings : goal.returns-in_ok-make_on-in-Ok-clause-brings
returns-in_ok-make_on-in-Ok-clause-brings g c =
    each_then (Becomes-stands {Q = λ list. List PageImage} c.requires.allocated (λ old new fine placed. old) (open_placed c.args.segment _ c.in_ok-page.field-0 (Ok c.in-Ok.page) c.in-Ok.is c.in_ok-page.ensures.lists))
    c.in_ok-make_on-in-Ok.ensures.lists
    (λ old new named known made is. kept_named made.middle new c.args.segment named c.requires.segment made.added.lists (kept_named old made.middle c.args.segment named c.requires.segment made.drawn.lists is))
    c.in_ok-page.ensures.brings c.in_ok-make_on-in-Ok.ensures.brings

pub returns-in-Err-clause-brings : goal.returns-in-Err-clause-brings
returns-in-Err-clause-brings g c = c.in_ok-page.ensures.brings

pub returns-in_err-make_on-in-Ok-clause-stays : goal.returns-in_err-make_on-in-Ok-clause-stays
returns-in_err-make_on-in-Ok-clause-stays g c =
    let failed = breaks_later {N = λ list. IsWantedIn list c.args.segment} c.requires.allocated (open_placed c.args.segment _ c.in_ok-page.field-0 (Ok c.in-Ok.page) c.in-Ok.is c.in_ok-page.ensures.lists) c.in_ok-page.ensures.brings
    (λ old middle named fine placed is. back_placed old middle c.args.segment _ c.in-Ok.page.0 named placed is)
    (λ old middle named fine placed is. back_placed old middle c.args.segment _ c.in-Ok.page.0 named placed is)
    c.in_err-make_on-in-Ok.ensures.stays in
    search rules

pub returns-in_ok-make_on-in-Ok-clause-owns : goal.returns-in_ok-make_on-in-Ok-clause-owns
returns-in_ok-make_on-in-Ok-clause-owns g c =
    each_owns_then (Becomes-stands {Q = λ list. List PageImage} c.requires.allocated (λ old new fine placed. old) (open_placed c.args.segment _ c.in_ok-page.field-0 (Ok c.in-Ok.page) c.in-Ok.is c.in_ok-page.ensures.lists))
    c.in_ok-make_on-in-Ok.ensures.lists
    (λ old new named known made is. kept_named made.middle new c.args.segment named c.requires.segment made.added.lists (kept_named old made.middle c.args.segment named c.requires.segment made.drawn.lists is))
    c.in_ok-page.ensures.owns c.in_ok-make_on-in-Ok.ensures.owns

pub returns-in-Err-clause-owns : goal.returns-in-Err-clause-owns
returns-in-Err-clause-owns g c = c.in_ok-page.ensures.owns
