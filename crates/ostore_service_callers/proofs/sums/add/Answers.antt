use Rattle.std.proofs.Common.{refl, ◌∙◌, inl, inr}
use Rattle.ostore_service_callers.proofs.ServiceLaws.{same_then, records_then, calm_then, counts, counted_between, owned_before, used_before, pages_elsewhere, elsewhere_then, owner_elsewhere}
use Rattle.ostore_service_callers.proofs.AddLaws.{sound, nothing, moved}
use Rattle.ostore_service_callers.proofs.sums.add.Goals as goal

pub returns-in-Err-clause-service : goal.returns-in-Err-clause-service
returns-in-Err-clause-service g c = same_then c.reserve.ensures.same.service c.fetch.ensures.same.service

pub returns-in-Err-clause-ended : goal.returns-in-Err-clause-ended
returns-in-Err-clause-ended g c = c.in-Err.ensures.refused.pages.held c.args.page.0 ∙ c.reserve.ensures.pages.held c.args.page.0 ∙ c.requires.may.free.held

pub returns-in-Err-clause-elsewhere : goal.returns-in-Err-clause-elsewhere
returns-in-Err-clause-elsewhere g c = elsewhere_then (pages_elsewhere c.args.page.0 c.reserve.ensures.pages) (pages_elsewhere c.args.page.0 c.in-Err.ensures.refused.pages)

pub returns-in-Err-clause-done : goal.returns-in-Err-clause-done
returns-in-Err-clause-done g c =
    let same = records_then c.reserve.ensures.same c.fetch.ensures.same in (
      nothing same,
      record {
        page = c.in-Err.ensures.refused.page;
        met = inl (owned_before c.args.page.0 c.reserve.ensures.same.service c.in-Err.ensures.met);
        counted = counted_between c.reserve.ensures.calm (counts c.in-Err.ensures.refused) (record { busy = refl; busies = refl });
        sound = sound same;
      },
    )

pub returns-in-Err-claim_own-clause-service : goal.returns-in-Err-claim_own-clause-service
returns-in-Err-claim_own-clause-service g c = same_then (same_then (same_then c.reserve.ensures.same.service c.fetch.ensures.same.service) c.claim_own.ensures.same.service) c.release.ensures.same.service

pub returns-in-Err-claim_own-clause-done : goal.returns-in-Err-claim_own-clause-done
returns-in-Err-claim_own-clause-done g c =
    let before = records_then c.reserve.ensures.same c.fetch.ensures.same in
    let same = records_then (records_then before c.claim_own.ensures.same) c.release.ensures.same in (
      nothing same,
      record {
        page = c.in-Err-claim_own.ensures.refused.page;
        met = inr (used_before c.args.page.0 before.service c.in-Err-claim_own.ensures.met);
        counted = counted_between (calm_then c.reserve.ensures.calm c.in_default-fetch.ensures.claimed.calm) (counts c.in-Err-claim_own.ensures.refused) c.release.ensures.released.calm;
        sound = sound same;
      },
    )

pub returns-clause-service : goal.returns-clause-service
returns-clause-service g c = same_then (same_then (same_then (same_then c.reserve.ensures.same.service c.fetch.ensures.same.service) c.claim_own.ensures.same.service) c.commit_sum-result.ensures.service) c.release-2.ensures.same.service

pub returns-clause-elsewhere : goal.returns-clause-elsewhere
returns-clause-elsewhere g c =
    let claimed = elsewhere_then (pages_elsewhere c.args.page.0 c.reserve.ensures.pages) c.in_default-fetch.ensures.claimed.others in
    let owned = elsewhere_then claimed (owner_elsewhere c.in_default-claim_own.ensures.claimed) in
    elsewhere_then (elsewhere_then owned c.commit_sum-result.ensures.elsewhere) c.release-2.ensures.released.others

pub returns-clause-done : goal.returns-clause-done
returns-clause-done g c =
    let same = records_then (records_then c.reserve.ensures.same c.fetch.ensures.same) c.claim_own.ensures.same in
    let calm = calm_then (calm_then c.reserve.ensures.calm c.in_default-fetch.ensures.claimed.calm) c.in_default-claim_own.ensures.claimed.calm in
    moved c.args.ordinal c.args.page.0 c.args.amount c.commit_sum-result.result same calm c.release-2.ensures.same c.release-2.ensures.released.calm c.commit_sum-result.ensures.done
