use Rattle.std.proofs.Common.{◌≡◌, ◌<◌, List, ◌∷◌, length, refl, sym, ap, subst, ◌∙◌}
use Rattle.std.specs.List.{AllByRecursion}
use Rattle.ostore_base.specs.declared.numbers.PageNo.{PageNo}
use Rattle.ostore_base.specs.declared.page.PageImage.{PageImage}
use Rattle.ostore_schema_layout.specs.declared.schema.Schema.{Schema}
use Rattle.ostore_page_service.specs.Told.{Told, InUse}
use Rattle.ostore_graph_model.specs.declared.history.Entry.{Entry}
use Rattle.ostore_relocation.specs.Reserving.{pages_wanted}
use Rattle.ostore_client_cache.specs.declared.entries.CachedPage.{CachedPage}
use Rattle.ostore_client_cache.specs.Caches.{fresh, surplus}
use Rattle.ostore_client_core.specs.Clients.{ClientView, with_pages, IsOwn}
use Rattle.ostore_client_core.specs.Calls.{Drops, IsFitPage}
use Rattle.ostore_client_core.proofs.RecordLaws.{records_then, calm_then}
use Rattle.ostore_client_core.proofs.GoesLaws.{same_client_of, same_client_is, own_still}
use Rattle.ostore_client_core.proofs.ArriveLaws.{new_first, new_leaves}
use Rattle.ostore_client_core.proofs.BringLaws.{Comes, base_of, fit_of, wanted_of, owns_is, new_use, takes_use, comes_narrows, comes_owns, comes_brings}
use Rattle.ostore_client_core.proofs.TakeLaws.{was_lost, lacks_frames}
use Rattle.ostore_client_core.proofs.NewLaws.{Trims, IsLost, way, absent_is, may_drop, mid_schema, mid_frames, mid_fetches, mid_there, mid_room, new_taken, new_lost, admitted_ok, drops_calm, dropped_kept, forgotten, admitted_idle}
use Rattle.ostore_client_core.proofs.client.Client.bring_new.Given.{Over}
use Rattle.ostore_client_core.proofs.client.Client.bring_new.Goals as goal

pub trim-requires : goal.trim-requires
trim-requires g c =
    let told : Told Entry = g.S.PageClaims.tells c.args.service.now in
    let old : ClientView = c.args.self.now in
    let is : c.admit.new.self ≡ with_pages ((c.args.page.0, fresh) ∷ old.pages) old = admitted_ok _ c.admit.result c.admit.ensures.ok c.if-is_err.ensures.value in
    let claimed : Told Entry = g.S.PageClaims.tells c.claim_read.new.self in
    let use_is : InUse told claimed c.args.page.0 c.claim_read.new.into = new_use c.in-Ok.field-0 told claimed c.args.page.0 _ c.claim_read.new.into (absent_is (g.S.PageClaims.serves c.args.service.now) told old c.args.page.0 c.requires.runs c.requires.absent c.requires.room c.pages_differ.ensures).kept c.in-Ok.ensures.claimed in
    record { oldest = λ q over. may_drop (g.S.PageClaims.serves c.args.service.now) told old c.args.page.0 c.requires.runs c.requires.absent c.requires.room c.pages_differ.ensures c.admit.new.self claimed is use_is.others c.in-Ok.ensures.same.service q over }

pub take-requires-clause-there : goal.take-requires-clause-there
take-requires-clause-there g c =
    let told : Told Entry = g.S.PageClaims.tells c.args.service.now in
    let old : ClientView = c.args.self.now in
    mid_there (g.S.PageClaims.serves c.args.service.now) told old c.args.page.0 c.requires.runs c.requires.absent c.requires.room c.pages_differ.ensures c.admit.new.self c.trim.new.self (record { admitted_is = admitted_ok _ c.admit.result c.admit.ensures.ok c.if-is_err.ensures.value; mid_is = c.trim.ensures.pages })

pub take-requires-clause-room : goal.take-requires-clause-room
take-requires-clause-room g c =
    let told : Told Entry = g.S.PageClaims.tells c.args.service.now in
    let old : ClientView = c.args.self.now in
    mid_room (g.S.PageClaims.serves c.args.service.now) told old c.args.page.0 c.requires.runs c.requires.absent c.requires.room c.pages_differ.ensures c.admit.new.self c.trim.new.self (record { admitted_is = admitted_ok _ c.admit.result c.admit.ensures.ok c.if-is_err.ensures.value; mid_is = c.trim.ensures.pages })

pub take-requires-clause-fit : goal.take-requires-clause-fit
take-requires-clause-fit g c =
    let told : Told Entry = g.S.PageClaims.tells c.args.service.now in
    let old : ClientView = c.args.self.now in
    let claimed : Told Entry = g.S.PageClaims.tells c.claim_read.new.self in
    let script = c.requires.runs.own.script in
    let use_is : InUse told claimed c.args.page.0 c.claim_read.new.into = new_use c.in-Ok.field-0 told claimed c.args.page.0 _ c.claim_read.new.into (absent_is (g.S.PageClaims.serves c.args.service.now) told old c.args.page.0 c.requires.runs c.requires.absent c.requires.room c.pages_differ.ensures).kept c.in-Ok.ensures.claimed in
    subst (λ (s : Schema). IsFitPage s c.args.page.0 c.claim_read.new.into)
    (sym (mid_schema (g.S.PageClaims.serves c.args.service.now) told old c.args.page.0 c.requires.runs c.requires.absent c.requires.room c.pages_differ.ensures c.admit.new.self c.trim.new.self (record { admitted_is = admitted_ok _ c.admit.result c.admit.ensures.ok c.if-is_err.ensures.value; mid_is = c.trim.ensures.pages })))
    (fit_of old.schema claimed c.args.page.0 c.claim_read.new.into (base_of script.0 old.schema claimed script.2 (c.in-Ok.ensures.reached script.0 script.1)) use_is.held)

-- ---- busy

pub forget-requires : goal.forget-requires
forget-requires g c = admitted_idle c.args.self.now c.admit.new.self c.args.page.0 (admitted_ok _ c.admit.result c.admit.ensures.ok c.if-is_err.ensures.value)

pub returns-in-Err-clause-own : goal.returns-in-Err-clause-own
returns-in-Err-clause-own g c =
    let old : ClientView = c.args.self.now in
    let as_was : c.forget.new.self ≡ old = forgotten old c.admit.new.self c.forget.new.self c.args.page.0 (admitted_ok _ c.admit.result c.admit.ensures.ok c.if-is_err.ensures.value) c.forget.ensures in
    subst (IsOwn (g.S.PageClaims.serves c.claim_read.new.self) (g.S.PageClaims.tells c.claim_read.new.self)) (sym as_was)
    (own_still (g.S.PageClaims.serves c.args.service.now) (g.S.PageClaims.serves c.claim_read.new.self) (g.S.PageClaims.tells c.args.service.now) (g.S.PageClaims.tells c.claim_read.new.self) old c.requires.runs.own c.in-Err.ensures.served c.in-Err.ensures.same.service c.in-Err.ensures.refused.pages)

pub returns-in-Err-clause-same_client : goal.returns-in-Err-clause-same_client
returns-in-Err-clause-same_client g c = same_client_is (forgotten c.args.self.now c.admit.new.self c.forget.new.self c.args.page.0 (admitted_ok _ c.admit.result c.admit.ensures.ok c.if-is_err.ensures.value) c.forget.ensures)

pub returns-in-Err-clause-owned : goal.returns-in-Err-clause-owned
returns-in-Err-clause-owned g c = owns_is (forgotten c.args.self.now c.admit.new.self c.forget.new.self c.args.page.0 (admitted_ok _ c.admit.result c.admit.ensures.ok c.if-is_err.ensures.value) c.forget.ensures)

-- ---- no frame

lost_on : (g : Over) (c : goal.In-Err-take g) → IsLost (g.S.PageClaims.serves c.take.new.service) (g.S.PageClaims.tells c.args.service.now) (g.S.PageClaims.tells c.take.new.service) c.args.self.now c.trim.new.self c.take.new.self c.args.page.0
lost_on g c =
    let told : Told Entry = g.S.PageClaims.tells c.args.service.now in
    let claimed : Told Entry = g.S.PageClaims.tells c.claim_read.new.self in
    let dropped : Told Entry = g.S.PageClaims.tells c.trim.new.service in
    let now : Told Entry = g.S.PageClaims.tells c.take.new.service in
    let old : ClientView = c.args.self.now in
    let script = c.requires.runs.own.script in
    let e = c.in-Ok.ensures in
    let d = c.trim.ensures in
    let l = c.in-Err-take.ensures in
    let is : c.admit.new.self ≡ with_pages ((c.args.page.0, fresh) ∷ old.pages) old = admitted_ok _ c.admit.result c.admit.ensures.ok c.if-is_err.ensures.value in
    let use_is : InUse told claimed c.args.page.0 c.claim_read.new.into = new_use c.in-Ok.field-0 told claimed c.args.page.0 _ c.claim_read.new.into (absent_is (g.S.PageClaims.serves c.args.service.now) told old c.args.page.0 c.requires.runs c.requires.absent c.requires.room c.pages_differ.ensures).kept e.claimed in
    let drops : Drops (way old c.args.page.0) claimed dropped = subst (λ (v : ClientView). Drops (surplus v.pages v.most) claimed dropped) is d.dropped in
    let wanted = subst (λ (p : List PageImage). AllByRecursion (λ (q : PageNo). q.0 < length p) (pages_wanted old.schema c.args.page c.claim_read.new.into.bytes)) e.same.service.opened
    (wanted_of old.schema claimed c.args.page.0 c.claim_read.new.into (base_of script.0 old.schema claimed script.2 (e.reached script.0 script.1)) use_is.held) in
    new_lost (g.S.PageClaims.serves c.args.service.now) told old c.args.page.0 c.requires.runs c.requires.absent c.requires.room c.pages_differ.ensures c.admit.new.self c.trim.new.self (record { admitted_is = is; mid_is = d.pages })
    (g.S.PageClaims.serves c.take.new.service) c.in-Err-take.fault claimed dropped now c.take.new.self c.args.page c.claim_read.new.into refl (λ s serving. l.served s (d.served s (e.served s serving)))
    (records_then told claimed now e.same (records_then claimed dropped now d.same l.same)).service use_is.others drops wanted (was_lost c.in-Err-take.fault c.trim.new.self c.take.new.self c.args.page c.claim_read.new.into dropped.mine now.mine l.lost)

pub returns-in-Err-take-clause-own : goal.returns-in-Err-take-clause-own
returns-in-Err-take-clause-own g c = (lost_on g c).own

pub returns-in-Err-take-clause-owned : goal.returns-in-Err-take-clause-owned
returns-in-Err-take-clause-owned g c = (lost_on g c).owns

pub returns-in-Err-take-clause-same_client : goal.returns-in-Err-take-clause-same_client
returns-in-Err-take-clause-same_client g c = (lost_on g c).client

pub returns-in-Err-take-clause-refused : goal.returns-in-Err-take-clause-refused
returns-in-Err-take-clause-refused g c =
    let told : Told Entry = g.S.PageClaims.tells c.args.service.now in
    let claimed : Told Entry = g.S.PageClaims.tells c.claim_read.new.self in
    let dropped : Told Entry = g.S.PageClaims.tells c.trim.new.service in
    let now : Told Entry = g.S.PageClaims.tells c.take.new.service in
    let old : ClientView = c.args.self.now in
    let e = c.in-Ok.ensures in
    let d = c.trim.ensures in
    let l = c.in-Err-take.ensures in
    let is : c.admit.new.self ≡ with_pages ((c.args.page.0, fresh) ∷ old.pages) old = admitted_ok _ c.admit.result c.admit.ensures.ok c.if-is_err.ensures.value in
    let t : Trims old c.admit.new.self c.trim.new.self c.args.page.0 = record { admitted_is = is; mid_is = d.pages } in
    let use_is : InUse told claimed c.args.page.0 c.claim_read.new.into = new_use c.in-Ok.field-0 told claimed c.args.page.0 _ c.claim_read.new.into (absent_is (g.S.PageClaims.serves c.args.service.now) told old c.args.page.0 c.requires.runs c.requires.absent c.requires.room c.pages_differ.ensures).kept e.claimed in
    let drops : Drops (way old c.args.page.0) claimed dropped = subst (λ (v : ClientView). Drops (surplus v.pages v.most) claimed dropped) is d.dropped in
    let lost = lost_on g c in
    lacks_frames c.in-Err-take.fault told now old c.trim.new.self c.take.new.self c.args.page c.claim_read.new.into dropped.mine (was_lost c.in-Err-take.fault c.trim.new.self c.take.new.self c.args.page c.claim_read.new.into dropped.mine now.mine l.lost)
    (calm_then told claimed now use_is.calm (calm_then claimed dropped now (drops_calm (way old c.args.page.0) claimed dropped drops) l.calm))
    (mid_schema (g.S.PageClaims.serves c.args.service.now) told old c.args.page.0 c.requires.runs c.requires.absent c.requires.room c.pages_differ.ensures c.admit.new.self c.trim.new.self t)
    (mid_frames (g.S.PageClaims.serves c.args.service.now) told old c.args.page.0 c.requires.runs c.requires.absent c.requires.room c.pages_differ.ensures c.admit.new.self c.trim.new.self t)
    (mid_fetches (g.S.PageClaims.serves c.args.service.now) told old c.args.page.0 c.requires.runs c.requires.absent c.requires.room c.pages_differ.ensures c.admit.new.self c.trim.new.self t)
    lost.gone lost.few

pub returns-in-Err-take-clause-same : goal.returns-in-Err-take-clause-same
returns-in-Err-take-clause-same g c =
    records_then (g.S.PageClaims.tells c.args.service.now) (g.S.PageClaims.tells c.claim_read.new.self) (g.S.PageClaims.tells c.take.new.service) c.in-Ok.ensures.same
    (records_then (g.S.PageClaims.tells c.claim_read.new.self) (g.S.PageClaims.tells c.trim.new.service) (g.S.PageClaims.tells c.take.new.service) c.trim.ensures.same c.in-Err-take.ensures.same)

pub returns-in-Err-take-clause-served : goal.returns-in-Err-take-clause-served
returns-in-Err-take-clause-served g c = λ s serving. c.in-Err-take.ensures.served s (c.trim.ensures.served s (c.in-Ok.ensures.served s serving))

-- ---- in use

came_on : (g : Over) (c : goal.In_default g) → (entry : CachedPage) × Comes (g.S.PageClaims.serves c.args.service.now) (g.S.PageClaims.serves c.take.new.service) (g.S.PageClaims.tells c.args.service.now) (g.S.PageClaims.tells c.take.new.service) c.args.self.now c.take.new.self c.args.page.0 entry
came_on g c =
    let told : Told Entry = g.S.PageClaims.tells c.args.service.now in
    let claimed : Told Entry = g.S.PageClaims.tells c.claim_read.new.self in
    let dropped : Told Entry = g.S.PageClaims.tells c.trim.new.service in
    let now : Told Entry = g.S.PageClaims.tells c.take.new.service in
    let old : ClientView = c.args.self.now in
    let script = c.requires.runs.own.script in
    let e = c.in-Ok.ensures in
    let d = c.trim.ensures in
    let l = c.in_default.ensures in
    let is : c.admit.new.self ≡ with_pages ((c.args.page.0, fresh) ∷ old.pages) old = admitted_ok _ c.admit.result c.admit.ensures.ok c.if-is_err.ensures.value in
    let t : Trims old c.admit.new.self c.trim.new.self c.args.page.0 = record { admitted_is = is; mid_is = d.pages } in
    let use_is : InUse told claimed c.args.page.0 c.claim_read.new.into = new_use c.in-Ok.field-0 told claimed c.args.page.0 _ c.claim_read.new.into (absent_is (g.S.PageClaims.serves c.args.service.now) told old c.args.page.0 c.requires.runs c.requires.absent c.requires.room c.pages_differ.ensures).kept e.claimed in
    let drops : Drops (way old c.args.page.0) claimed dropped = subst (λ (v : ClientView). Drops (surplus v.pages v.most) claimed dropped) is d.dropped in
    let fit : IsFitPage c.trim.new.self.schema c.args.page.0 c.claim_read.new.into = subst (λ (s : Schema). IsFitPage s c.args.page.0 c.claim_read.new.into)
    (sym (mid_schema (g.S.PageClaims.serves c.args.service.now) told old c.args.page.0 c.requires.runs c.requires.absent c.requires.room c.pages_differ.ensures c.admit.new.self c.trim.new.self t))
    (fit_of old.schema claimed c.args.page.0 c.claim_read.new.into (base_of script.0 old.schema claimed script.2 (e.reached script.0 script.1)) use_is.held) in
    new_taken (g.S.PageClaims.serves c.args.service.now) told old c.args.page.0 c.requires.runs c.requires.absent c.requires.room c.pages_differ.ensures c.admit.new.self c.trim.new.self t
    (g.S.PageClaims.serves c.take.new.service) claimed dropped now c.take.new.self c.claim_read.new.into (λ s serving. l.served s (d.served s (e.served s serving))) e.same.service d.same c.requires.known
    use_is drops (ap g.S.PageClaims.tells l.still) fit l.taken (records_then told claimed dropped e.same d.same).service e.reached

taken_on : goal.returns-in_default-clause-narrows
taken_on g c =
    let comes = came_on g c in
    comes_narrows (g.S.PageClaims.serves c.args.service.now) (g.S.PageClaims.serves c.take.new.service) (g.S.PageClaims.tells c.args.service.now) (g.S.PageClaims.tells c.take.new.service) c.args.self.now c.take.new.self c.args.page.0 comes.0 comes.1

pub returns-in_default-clause-narrows : goal.returns-in_default-clause-narrows
returns-in_default-clause-narrows g c = taken_on g c

pub returns-in_default-clause-same_client : goal.returns-in_default-clause-same_client
returns-in_default-clause-same_client g c = same_client_of (came_on g c).1.more

pub returns-in_default-clause-owned : goal.returns-in_default-clause-owned
returns-in_default-clause-owned g c =
    let comes = came_on g c in
    comes_owns (g.S.PageClaims.serves c.args.service.now) (g.S.PageClaims.serves c.take.new.service) (g.S.PageClaims.tells c.args.service.now) (g.S.PageClaims.tells c.take.new.service) c.args.self.now c.take.new.self c.args.page.0 comes.0 comes.1

pub returns-in_default-clause-brings : goal.returns-in_default-clause-brings
returns-in_default-clause-brings g c =
    let comes = came_on g c in
    comes_brings (g.S.PageClaims.serves c.args.service.now) (g.S.PageClaims.serves c.take.new.service) (g.S.PageClaims.tells c.args.service.now) (g.S.PageClaims.tells c.take.new.service) c.args.self.now c.take.new.self c.args.page.0 comes.0 comes.1

pub returns-in_default-clause-own : goal.returns-in_default-clause-own
returns-in_default-clause-own g c = (taken_on g c).runs.own

pub returns-in_default-clause-used : goal.returns-in_default-clause-used
returns-in_default-clause-used g c = takes_use c.trim.new.self c.take.new.self c.args.page.0 c.claim_read.new.into c.in_default.ensures.taken

pub returns-in_default-clause-same : goal.returns-in_default-clause-same
returns-in_default-clause-same g c =
    records_then (g.S.PageClaims.tells c.args.service.now) (g.S.PageClaims.tells c.claim_read.new.self) (g.S.PageClaims.tells c.take.new.service) c.in-Ok.ensures.same
    (records_then (g.S.PageClaims.tells c.claim_read.new.self) (g.S.PageClaims.tells c.trim.new.service) (g.S.PageClaims.tells c.take.new.service) c.trim.ensures.same c.in_default.ensures.same)

pub returns-in_default-clause-served : goal.returns-in_default-clause-served
returns-in_default-clause-served g c = λ s serving. c.in_default.ensures.served s (c.trim.ensures.served s (c.in-Ok.ensures.served s serving))

-- ---- no Busy

pub returns-in_default-clause-calm : goal.returns-in_default-clause-calm
returns-in_default-clause-calm g c =
    let told : Told Entry = g.S.PageClaims.tells c.args.service.now in
    let claimed : Told Entry = g.S.PageClaims.tells c.claim_read.new.self in
    let dropped : Told Entry = g.S.PageClaims.tells c.trim.new.service in
    let now : Told Entry = g.S.PageClaims.tells c.take.new.service in
    let old : ClientView = c.args.self.now in
    let is : c.admit.new.self ≡ with_pages ((c.args.page.0, fresh) ∷ old.pages) old = admitted_ok _ c.admit.result c.admit.ensures.ok c.if-is_err.ensures.value in
    let use_is : InUse told claimed c.args.page.0 c.claim_read.new.into = new_use c.in-Ok.field-0 told claimed c.args.page.0 _ c.claim_read.new.into (absent_is (g.S.PageClaims.serves c.args.service.now) told old c.args.page.0 c.requires.runs c.requires.absent c.requires.room c.pages_differ.ensures).kept c.in-Ok.ensures.claimed in
    let drops : Drops (way old c.args.page.0) claimed dropped = subst (λ (v : ClientView). Drops (surplus v.pages v.most) claimed dropped) is c.trim.ensures.dropped in
    calm_then told claimed now use_is.calm (calm_then claimed dropped now (drops_calm (way old c.args.page.0) claimed dropped drops) c.in_default.ensures.calm)

-- ---- the other pages

pub returns-in_default-clause-first : goal.returns-in_default-clause-first
returns-in_default-clause-first g c =
    let told : Told Entry = g.S.PageClaims.tells c.args.service.now in
    let old : ClientView = c.args.self.now in
    let is : c.admit.new.self ≡ with_pages ((c.args.page.0, fresh) ∷ old.pages) old = admitted_ok _ c.admit.result c.admit.ensures.ok c.if-is_err.ensures.value in
    new_first (g.S.PageClaims.serves c.args.service.now) told old c.args.page.0 c.requires.runs c.requires.absent c.requires.room c.pages_differ.ensures c.admit.new.self c.trim.new.self c.take.new.self c.claim_read.new.into (record { admitted_is = is; mid_is = c.trim.ensures.pages }) c.in_default.ensures.taken

pub returns-in-Err-take-clause-leaves : goal.returns-in-Err-take-clause-leaves
returns-in-Err-take-clause-leaves g c =
    let told : Told Entry = g.S.PageClaims.tells c.args.service.now in
    let dropped : Told Entry = g.S.PageClaims.tells c.trim.new.service in
    let now : Told Entry = g.S.PageClaims.tells c.take.new.service in
    new_leaves (g.S.PageClaims.serves c.take.new.service) c.in-Err-take.fault told now c.args.self.now c.trim.new.self c.take.new.self c.args.page c.claim_read.new.into dropped.mine now.mine c.requires.absent
    (was_lost c.in-Err-take.fault c.trim.new.self c.take.new.self c.args.page c.claim_read.new.into dropped.mine now.mine c.in-Err-take.ensures.lost) (lost_on g c)

-- ---- the copies of other pages

pub returns-in-Err-clause-copies : goal.returns-in-Err-clause-copies
returns-in-Err-clause-copies g c = λ other stays. c.in-Err.ensures.refused.pages.kept other

pub returns-in-Err-take-clause-copies : goal.returns-in-Err-take-clause-copies
returns-in-Err-take-clause-copies g c =
    let told : Told Entry = g.S.PageClaims.tells c.args.service.now in
    let claimed : Told Entry = g.S.PageClaims.tells c.claim_read.new.self in
    let dropped : Told Entry = g.S.PageClaims.tells c.trim.new.service in
    let old : ClientView = c.args.self.now in
    let is : c.admit.new.self ≡ with_pages ((c.args.page.0, fresh) ∷ old.pages) old = admitted_ok _ c.admit.result c.admit.ensures.ok c.if-is_err.ensures.value in
    let use_is : InUse told claimed c.args.page.0 c.claim_read.new.into = new_use c.in-Ok.field-0 told claimed c.args.page.0 _ c.claim_read.new.into (absent_is (g.S.PageClaims.serves c.args.service.now) told old c.args.page.0 c.requires.runs c.requires.absent c.requires.room c.pages_differ.ensures).kept c.in-Ok.ensures.claimed in
    let drops : Drops (way old c.args.page.0) claimed dropped = subst (λ (v : ClientView). Drops (surplus v.pages v.most) claimed dropped) is c.trim.ensures.dropped in
    let now : Told Entry = g.S.PageClaims.tells c.take.new.service in
    let w = was_lost c.in-Err-take.fault c.trim.new.self c.take.new.self c.args.page c.claim_read.new.into dropped.mine now.mine c.in-Err-take.ensures.lost in
    λ other stays. w.gone.others.kept other stays.apart ∙ dropped_kept (way old c.args.page.0) claimed dropped drops other (stays.stays c.requires.absent) ∙ use_is.others.kept other stays.apart

pub returns-in_default-clause-copies : goal.returns-in_default-clause-copies
returns-in_default-clause-copies g c =
    let told : Told Entry = g.S.PageClaims.tells c.args.service.now in
    let claimed : Told Entry = g.S.PageClaims.tells c.claim_read.new.self in
    let dropped : Told Entry = g.S.PageClaims.tells c.trim.new.service in
    let old : ClientView = c.args.self.now in
    let is : c.admit.new.self ≡ with_pages ((c.args.page.0, fresh) ∷ old.pages) old = admitted_ok _ c.admit.result c.admit.ensures.ok c.if-is_err.ensures.value in
    let use_is : InUse told claimed c.args.page.0 c.claim_read.new.into = new_use c.in-Ok.field-0 told claimed c.args.page.0 _ c.claim_read.new.into (absent_is (g.S.PageClaims.serves c.args.service.now) told old c.args.page.0 c.requires.runs c.requires.absent c.requires.room c.pages_differ.ensures).kept c.in-Ok.ensures.claimed in
    let drops : Drops (way old c.args.page.0) claimed dropped = subst (λ (v : ClientView). Drops (surplus v.pages v.most) claimed dropped) is c.trim.ensures.dropped in
    λ other stays. ap (λ (t : Told Entry). t.mine.kept other) (ap g.S.PageClaims.tells c.in_default.ensures.still) ∙ dropped_kept (way old c.args.page.0) claimed dropped drops other (stays.stays c.requires.absent) ∙ use_is.others.kept other stays.apart
