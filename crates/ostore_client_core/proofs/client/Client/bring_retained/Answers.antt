use Rattle.std.proofs.Common.{◌<◌, nat_eq, List, length, refl, ap, subst, ◌∙◌}
use Rattle.std.specs.List.{AllByRecursion}
use Rattle.std.specs.Map.{lookup}
use Rattle.ostore_base.specs.declared.numbers.PageNo.{PageNo}
use Rattle.ostore_base.specs.declared.page.PageImage.{PageImage}
use Rattle.ostore_relocation.specs.Reserving.{pages_wanted}
use Rattle.ostore_page_service.specs.Told.{Told, InUse}
use Rattle.ostore_graph_model.specs.declared.history.Entry.{Entry}
use Rattle.ostore_client_core.specs.Clients.{ClientView, entry_of, stored_image, IsOwn}
use Rattle.ostore_client_core.specs.Calls.{OwnsNoMore}
use Rattle.ostore_client_cache.specs.declared.entries.CachedPage.{CachedPage}
use Rattle.ostore_client_core.proofs.ArriveLaws.{kept_first, fetched_first, retained_leaves}
use Rattle.ostore_client_core.proofs.EntryLaws.{gone_here}
use Rattle.ostore_client_core.proofs.RecordLaws.{records_then, calm_then}
use Rattle.ostore_client_core.proofs.GoesLaws.{same_client_of, own_still}
use Rattle.ostore_client_core.proofs.BeginLaws.{unheld}
use Rattle.ostore_client_core.proofs.BringLaws.{Comes, base_of, fit_of, wanted_of, fetched_use, kept_use, kept_comes, comes_narrows, comes_owns, comes_brings, takes_use}
use Rattle.ostore_client_core.proofs.TakeLaws.{retained_idle, retained_taken, retained_lost, was_lost, lacks_frames, lost_known, lost_more, lost_pages}
use Rattle.ostore_client_core.proofs.client.Client.bring_retained.Given.{Over}
use Rattle.ostore_client_core.proofs.client.Client.bring_retained.Goals as goal

pub claim_read-requires-clause-unused : goal.claim_read-requires-clause-unused
claim_read-requires-clause-unused g c =
    let found = entry_of c.args.self.now c.args.page.0 in
    unheld (stored_image c.args.self.now c.args.page.0) (g.S.PageClaims.tells c.args.service.now).mine c.args.page.0 found (retained_idle found c.requires.there) (c.requires.runs.own.tied c.args.page.0)

pub take-requires-clause-fit : goal.take-requires-clause-fit
take-requires-clause-fit g c =
    let script = c.requires.runs.own.script in
    let schema = c.args.self.now.schema in
    let now : Told Entry = g.S.PageClaims.tells c.claim_read.new.self in
    let use_is : InUse (g.S.PageClaims.tells c.args.service.now) now c.args.page.0 c.claim_read.new.into = fetched_use c.in-Ok-Fetched.field-0 (g.S.PageClaims.tells c.args.service.now) now c.args.page.0 _ c.claim_read.new.into c.in-Ok-Fetched.field-0-is c.in-Ok-Fetched.ensures.claimed in
    fit_of schema now c.args.page.0 c.claim_read.new.into (base_of script.0 schema now script.2 (c.in-Ok-Fetched.ensures.reached script.0 script.1)) use_is.held

-- ---- kept

kept_came : (g : Over) (c : goal.After-use_page g) → (entry : CachedPage) × Comes (g.S.PageClaims.serves c.args.service.now) (g.S.PageClaims.serves c.claim_read.new.self) (g.S.PageClaims.tells c.args.service.now) (g.S.PageClaims.tells c.claim_read.new.self) c.args.self.now c.use_page.new.self c.args.page.0 entry
kept_came g c =
    let told : Told Entry = g.S.PageClaims.tells c.args.service.now in
    let now : Told Entry = g.S.PageClaims.tells c.claim_read.new.self in
    let e = c.in-Ok-Kept.ensures in
    let copy = kept_use c.in-Ok-Kept.field-0 told now c.args.page.0 _ c.claim_read.new.into c.in-Ok-Kept.field-0-is e.claimed in
    kept_comes (g.S.PageClaims.serves c.args.service.now) (g.S.PageClaims.serves c.claim_read.new.self) told now c.args.self.now c.use_page.new.self c.args.page.0 copy.0 c.requires.runs e.served e.same.service c.requires.known c.requires.there copy.1 copy.2 e.reached c.use_page.ensures

kept_on : goal.returns-in-Ok-Kept-clause-narrows
kept_on g c =
    let comes = kept_came g c in
    comes_narrows (g.S.PageClaims.serves c.args.service.now) (g.S.PageClaims.serves c.claim_read.new.self) (g.S.PageClaims.tells c.args.service.now) (g.S.PageClaims.tells c.claim_read.new.self) c.args.self.now c.use_page.new.self c.args.page.0 comes.0 comes.1

pub returns-in-Ok-Kept-clause-same_client : goal.returns-in-Ok-Kept-clause-same_client
returns-in-Ok-Kept-clause-same_client g c = same_client_of (kept_came g c).1.more

pub returns-in-Ok-Kept-clause-owned : goal.returns-in-Ok-Kept-clause-owned
returns-in-Ok-Kept-clause-owned g c =
    let comes = kept_came g c in
    comes_owns (g.S.PageClaims.serves c.args.service.now) (g.S.PageClaims.serves c.claim_read.new.self) (g.S.PageClaims.tells c.args.service.now) (g.S.PageClaims.tells c.claim_read.new.self) c.args.self.now c.use_page.new.self c.args.page.0 comes.0 comes.1

pub returns-in-Ok-Kept-clause-brings : goal.returns-in-Ok-Kept-clause-brings
returns-in-Ok-Kept-clause-brings g c =
    let comes = kept_came g c in
    comes_brings (g.S.PageClaims.serves c.args.service.now) (g.S.PageClaims.serves c.claim_read.new.self) (g.S.PageClaims.tells c.args.service.now) (g.S.PageClaims.tells c.claim_read.new.self) c.args.self.now c.use_page.new.self c.args.page.0 comes.0 comes.1

pub returns-in-Ok-Kept-clause-narrows : goal.returns-in-Ok-Kept-clause-narrows
returns-in-Ok-Kept-clause-narrows g c = kept_on g c

pub returns-in-Ok-Kept-clause-own : goal.returns-in-Ok-Kept-clause-own
returns-in-Ok-Kept-clause-own g c = (kept_on g c).runs.own

-- ---- busy

pub returns-in-Err-clause-own : goal.returns-in-Err-clause-own
returns-in-Err-clause-own g c =
    own_still (g.S.PageClaims.serves c.args.service.now) (g.S.PageClaims.serves c.claim_read.new.self) (g.S.PageClaims.tells c.args.service.now) (g.S.PageClaims.tells c.claim_read.new.self) c.args.self.now c.requires.runs.own c.in-Err.ensures.served c.in-Err.ensures.same.service c.in-Err.ensures.refused.pages

-- ---- no frame

wanted_on : (g : Over) (c : goal.In-Err-take g) → AllByRecursion (λ (q : PageNo). q.0 < length (g.S.PageClaims.tells c.args.service.now).opened) (pages_wanted c.args.self.now.schema c.args.page c.claim_read.new.into.bytes)
wanted_on g c =
    let told : Told Entry = g.S.PageClaims.tells c.args.service.now in
    let claimed : Told Entry = g.S.PageClaims.tells c.claim_read.new.self in
    let old : ClientView = c.args.self.now in
    let script = c.requires.runs.own.script in
    let e = c.in-Ok-Fetched.ensures in
    let use_is : InUse told claimed c.args.page.0 c.claim_read.new.into = fetched_use c.in-Ok-Fetched.field-0 told claimed c.args.page.0 _ c.claim_read.new.into c.in-Ok-Fetched.field-0-is e.claimed in
    subst (λ (p : List PageImage). AllByRecursion (λ (q : PageNo). q.0 < length p) (pages_wanted old.schema c.args.page c.claim_read.new.into.bytes)) e.same.service.opened
    (wanted_of old.schema claimed c.args.page.0 c.claim_read.new.into (base_of script.0 old.schema claimed script.2 (e.reached script.0 script.1)) use_is.held)

lost_on : (g : Over) (c : goal.In-Err-take g) → IsOwn (g.S.PageClaims.serves c.take.new.service) (g.S.PageClaims.tells c.take.new.service) c.take.new.self × OwnsNoMore c.args.self.now c.take.new.self
lost_on g c =
    let told : Told Entry = g.S.PageClaims.tells c.args.service.now in
    let claimed : Told Entry = g.S.PageClaims.tells c.claim_read.new.self in
    let now : Told Entry = g.S.PageClaims.tells c.take.new.service in
    let e = c.in-Ok-Fetched.ensures in
    let l = c.in-Err-take.ensures in
    let use_is : InUse told claimed c.args.page.0 c.claim_read.new.into = fetched_use c.in-Ok-Fetched.field-0 told claimed c.args.page.0 _ c.claim_read.new.into c.in-Ok-Fetched.field-0-is e.claimed in
    retained_lost (g.S.PageClaims.serves c.args.service.now) (g.S.PageClaims.serves c.take.new.service) c.in-Err-take.fault told claimed now c.args.self.now c.take.new.self c.args.page c.claim_read.new.into c.requires.runs
    (λ s serving. l.served s (e.served s serving)) (records_then told claimed now e.same l.same).service c.pages_differ.ensures use_is.others (wanted_on g c)
    (was_lost c.in-Err-take.fault c.args.self.now c.take.new.self c.args.page c.claim_read.new.into claimed.mine now.mine l.lost)

pub returns-in-Err-take-clause-own : goal.returns-in-Err-take-clause-own
returns-in-Err-take-clause-own g c = (lost_on g c).0

pub returns-in-Err-take-clause-owned : goal.returns-in-Err-take-clause-owned
returns-in-Err-take-clause-owned g c = (lost_on g c).1

pub returns-in-Err-take-clause-same_client : goal.returns-in-Err-take-clause-same_client
returns-in-Err-take-clause-same_client g c =
    let claimed : Told Entry = g.S.PageClaims.tells c.claim_read.new.self in
    let now : Told Entry = g.S.PageClaims.tells c.take.new.service in
    let w = was_lost c.in-Err-take.fault c.args.self.now c.take.new.self c.args.page c.claim_read.new.into claimed.mine now.mine c.in-Err-take.ensures.lost in
    same_client_of (lost_more c.args.self.now c.take.new.self c.args.page c.claim_read.new.into w.frames w.lost)

pub returns-in-Err-take-clause-refused : goal.returns-in-Err-take-clause-refused
returns-in-Err-take-clause-refused g c =
    let told : Told Entry = g.S.PageClaims.tells c.args.service.now in
    let claimed : Told Entry = g.S.PageClaims.tells c.claim_read.new.self in
    let now : Told Entry = g.S.PageClaims.tells c.take.new.service in
    let old : ClientView = c.args.self.now in
    let e = c.in-Ok-Fetched.ensures in
    let l = c.in-Err-take.ensures in
    let use_is : InUse told claimed c.args.page.0 c.claim_read.new.into = fetched_use c.in-Ok-Fetched.field-0 told claimed c.args.page.0 _ c.claim_read.new.into c.in-Ok-Fetched.field-0-is e.claimed in
    let w = was_lost c.in-Err-take.fault old c.take.new.self c.args.page c.claim_read.new.into claimed.mine now.mine l.lost in
    lacks_frames c.in-Err-take.fault told now old old c.take.new.self c.args.page c.claim_read.new.into claimed.mine w (calm_then told claimed now use_is.calm l.calm) refl refl refl
    (ap (lookup (nat_eq c.args.page.0)) (lost_pages old c.take.new.self c.args.page c.claim_read.new.into w.frames w.lost) ∙ gone_here c.args.page.0 old.pages c.pages_differ.ensures)
    (lost_known old c.take.new.self c.args.page c.claim_read.new.into w.frames w.lost (length told.opened) c.requires.runs.own.framed (wanted_on g c)).1

pub returns-in-Err-take-clause-same : goal.returns-in-Err-take-clause-same
returns-in-Err-take-clause-same g c =
    records_then (g.S.PageClaims.tells c.args.service.now) (g.S.PageClaims.tells c.claim_read.new.self) (g.S.PageClaims.tells c.take.new.service) c.in-Ok-Fetched.ensures.same c.in-Err-take.ensures.same

-- ---- fetched

came_on : (g : Over) (c : goal.In_default g) → (entry : CachedPage) × Comes (g.S.PageClaims.serves c.args.service.now) (g.S.PageClaims.serves c.take.new.service) (g.S.PageClaims.tells c.args.service.now) (g.S.PageClaims.tells c.take.new.service) c.args.self.now c.take.new.self c.args.page.0 entry
came_on g c =
    let told : Told Entry = g.S.PageClaims.tells c.args.service.now in
    let claimed : Told Entry = g.S.PageClaims.tells c.claim_read.new.self in
    let now : Told Entry = g.S.PageClaims.tells c.take.new.service in
    let old : ClientView = c.args.self.now in
    let script = c.requires.runs.own.script in
    let e = c.in-Ok-Fetched.ensures in
    let l = c.in_default.ensures in
    let use_is : InUse told claimed c.args.page.0 c.claim_read.new.into = fetched_use c.in-Ok-Fetched.field-0 told claimed c.args.page.0 _ c.claim_read.new.into c.in-Ok-Fetched.field-0-is e.claimed in
    let fit = fit_of old.schema claimed c.args.page.0 c.claim_read.new.into (base_of script.0 old.schema claimed script.2 (e.reached script.0 script.1)) use_is.held in
    retained_taken (g.S.PageClaims.serves c.args.service.now) (g.S.PageClaims.serves c.take.new.service) told claimed now old c.take.new.self c.args.page.0 c.claim_read.new.into c.requires.runs
    (λ s serving. l.served s (e.served s serving)) e.same.service c.requires.known c.requires.there use_is (ap g.S.PageClaims.tells l.still) fit l.taken e.reached

taken_on : goal.returns-in_default-clause-narrows
taken_on g c =
    let comes = came_on g c in
    comes_narrows (g.S.PageClaims.serves c.args.service.now) (g.S.PageClaims.serves c.take.new.service) (g.S.PageClaims.tells c.args.service.now) (g.S.PageClaims.tells c.take.new.service) c.args.self.now c.take.new.self c.args.page.0 comes.0 comes.1

pub returns-in_default-clause-narrows : goal.returns-in_default-clause-narrows
returns-in_default-clause-narrows g c = taken_on g c

pub returns-in_default-clause-same_client : goal.returns-in_default-clause-same_client
returns-in_default-clause-same_client g c = same_client_of (came_on g c).1.more

pub returns-in_default-clause-owned : goal.returns-in_default-clause-owned
returns-in_default-clause-owned g c =
    let comes = came_on g c in
    comes_owns (g.S.PageClaims.serves c.args.service.now) (g.S.PageClaims.serves c.take.new.service) (g.S.PageClaims.tells c.args.service.now) (g.S.PageClaims.tells c.take.new.service) c.args.self.now c.take.new.self c.args.page.0 comes.0 comes.1

pub returns-in_default-clause-brings : goal.returns-in_default-clause-brings
returns-in_default-clause-brings g c =
    let comes = came_on g c in
    comes_brings (g.S.PageClaims.serves c.args.service.now) (g.S.PageClaims.serves c.take.new.service) (g.S.PageClaims.tells c.args.service.now) (g.S.PageClaims.tells c.take.new.service) c.args.self.now c.take.new.self c.args.page.0 comes.0 comes.1

pub returns-in_default-clause-own : goal.returns-in_default-clause-own
returns-in_default-clause-own g c = (taken_on g c).runs.own

pub returns-in_default-clause-used : goal.returns-in_default-clause-used
returns-in_default-clause-used g c = takes_use c.args.self.now c.take.new.self c.args.page.0 c.claim_read.new.into c.in_default.ensures.taken

pub returns-in_default-clause-served : goal.returns-in_default-clause-served
returns-in_default-clause-served g c = λ s serving. c.in_default.ensures.served s (c.in-Ok-Fetched.ensures.served s serving)

-- ---- no Busy

pub returns-in-Ok-Kept-clause-calm : goal.returns-in-Ok-Kept-clause-calm
returns-in-Ok-Kept-clause-calm g c =
    (kept_use c.in-Ok-Kept.field-0 (g.S.PageClaims.tells c.args.service.now) (g.S.PageClaims.tells c.claim_read.new.self) c.args.page.0 _ c.claim_read.new.into c.in-Ok-Kept.field-0-is c.in-Ok-Kept.ensures.claimed).2.calm

pub returns-in_default-clause-calm : goal.returns-in_default-clause-calm
returns-in_default-clause-calm g c =
    let told : Told Entry = g.S.PageClaims.tells c.args.service.now in
    let claimed : Told Entry = g.S.PageClaims.tells c.claim_read.new.self in
    let use_is : InUse told claimed c.args.page.0 c.claim_read.new.into = fetched_use c.in-Ok-Fetched.field-0 told claimed c.args.page.0 _ c.claim_read.new.into c.in-Ok-Fetched.field-0-is c.in-Ok-Fetched.ensures.claimed in
    calm_then told claimed (g.S.PageClaims.tells c.take.new.service) use_is.calm c.in_default.ensures.calm

-- ---- the other pages

pub returns-in-Ok-Kept-clause-first : goal.returns-in-Ok-Kept-clause-first
returns-in-Ok-Kept-clause-first g c = kept_first c.args.self.now c.use_page.new.self c.args.page.0 c.requires.there c.use_page.ensures

pub returns-in_default-clause-first : goal.returns-in_default-clause-first
returns-in_default-clause-first g c = fetched_first c.args.self.now c.take.new.self c.args.page.0 c.claim_read.new.into c.requires.there c.in_default.ensures.taken

pub returns-in-Err-take-clause-leaves : goal.returns-in-Err-take-clause-leaves
returns-in-Err-take-clause-leaves g c =
    let claimed : Told Entry = g.S.PageClaims.tells c.claim_read.new.self in
    let now : Told Entry = g.S.PageClaims.tells c.take.new.service in
    retained_leaves c.in-Err-take.fault c.args.self.now c.take.new.self c.args.page c.claim_read.new.into claimed.mine now.mine c.requires.there
    (was_lost c.in-Err-take.fault c.args.self.now c.take.new.self c.args.page c.claim_read.new.into claimed.mine now.mine c.in-Err-take.ensures.lost)

-- ---- the copies of other pages

pub returns-in-Ok-Kept-clause-copies : goal.returns-in-Ok-Kept-clause-copies
returns-in-Ok-Kept-clause-copies g c = λ other stays.
    (kept_use c.in-Ok-Kept.field-0 (g.S.PageClaims.tells c.args.service.now) (g.S.PageClaims.tells c.claim_read.new.self) c.args.page.0 _ c.claim_read.new.into c.in-Ok-Kept.field-0-is c.in-Ok-Kept.ensures.claimed).2.others.kept other stays.apart

pub returns-in-Err-clause-copies : goal.returns-in-Err-clause-copies
returns-in-Err-clause-copies g c = λ other stays. c.in-Err.ensures.refused.pages.kept other

pub returns-in-Err-take-clause-copies : goal.returns-in-Err-take-clause-copies
returns-in-Err-take-clause-copies g c =
    let claimed : Told Entry = g.S.PageClaims.tells c.claim_read.new.self in
    let now : Told Entry = g.S.PageClaims.tells c.take.new.service in
    let w = was_lost c.in-Err-take.fault c.args.self.now c.take.new.self c.args.page c.claim_read.new.into claimed.mine now.mine c.in-Err-take.ensures.lost in
    let use_is : InUse (g.S.PageClaims.tells c.args.service.now) claimed c.args.page.0 c.claim_read.new.into = fetched_use c.in-Ok-Fetched.field-0 (g.S.PageClaims.tells c.args.service.now) claimed c.args.page.0 _ c.claim_read.new.into c.in-Ok-Fetched.field-0-is c.in-Ok-Fetched.ensures.claimed in
    λ other stays. w.gone.others.kept other stays.apart ∙ use_is.others.kept other stays.apart

pub returns-in_default-clause-copies : goal.returns-in_default-clause-copies
returns-in_default-clause-copies g c =
    let claimed : Told Entry = g.S.PageClaims.tells c.claim_read.new.self in
    let use_is : InUse (g.S.PageClaims.tells c.args.service.now) claimed c.args.page.0 c.claim_read.new.into = fetched_use c.in-Ok-Fetched.field-0 (g.S.PageClaims.tells c.args.service.now) claimed c.args.page.0 _ c.claim_read.new.into c.in-Ok-Fetched.field-0-is c.in-Ok-Fetched.ensures.claimed in
    λ other stays. ap (λ (t : Told Entry). t.mine.kept other) (ap g.S.PageClaims.tells c.in_default.ensures.still) ∙ use_is.others.kept other stays.apart
