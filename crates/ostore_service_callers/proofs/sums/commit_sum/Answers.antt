use Rattle.std.proofs.Common.{rules, ◌∙◌, ◌+◌, ◌%◌, refl, ap, true, slice_set, [], ◌∷◌, ◌++◌}
use Rattle.std.specs.Prelude.{slice_index}
use Rattle.ostore_base.specs.declared.page.PageImage.{PageImage}
use Rattle.ostore_redo_journal.specs.Drafts.{Writes}
use Rattle.ostore_service_callers.specs.declared.sums.Addition.{Addition}
use Rattle.ostore_service_callers.proofs.AddLaws.{adds, first_set}
use Rattle.ostore_service_callers.proofs.SumLaws.{sum_next}
use Rattle.ostore_service_callers.proofs.sums.commit_sum.Goals as goal

pub commit-requires-clause-fits : goal.commit-requires-clause-fits
commit-requires-clause-fits g c = (
  c.requires.served.0,
  c.requires.served.1,
  record {
    mine = search rules;
    named = tt;
    rises = search rules;
    covers = search rules;
    right = λ xs long valid agrees. search rules;
    next = λ is xs long valid agrees. sum_next c.requires.served.0 _ xs c.in-Ok.rec.pages c.add.new.self.pages c.args.page c.args.image.now _ c.in-Ok.ensures.pages c.add.ensures.pages refl (agrees c.args.page.0 c.args.image.now c.requires.held) (search rules) valid;
  },
)

pub returns-in-Ok-commit-clause-done : goal.returns-in-Ok-commit-clause-done
returns-in-Ok-commit-clause-done g c =
    let bytes = c.args.image.now.bytes in
    let seen = slice_index bytes 0 in
    let image : PageImage = record { bytes = slice_set bytes 0 ((seen + c.args.amount) % 256) } in
    let entry : Addition = record {
      client = c.client-client.result.0;
      ordinal = c.args.ordinal;
      page = c.args.page.0;
      amount = c.args.amount;
      seen = seen;
      updates = true;
    } in
    let written = c.add.ensures.pages ∙ ap (λ (ws : Writes). ws ++ (c.args.page, image) ∷ []) c.in-Ok.ensures.pages in (
      entry,
      image,
      adds _ _ c.args.ordinal c.args.page.0 c.args.amount c.in-Ok-commit.number entry image _ c.client-client.ensures.number refl refl refl refl
          (first_set bytes ((seen + c.args.amount) % 256) (search rules)) written c.in-Ok-commit.ensures.numbered c.in-Ok-commit.ensures.added,
    )
