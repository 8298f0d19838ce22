use Rattle.std.proofs.Common.{rules, ◌≡◌, ◌≤◌, ◌<◌, true, length, refl, sym, ◌∙◌, subst, arith}
use Rattle.std.proofs.lemmas.Bool.{false≢true}
use Rattle.ostore_client_cache.specs.Caches.{used_pages}
use Rattle.ostore_client_cache.specs.Entries.{is_in_use}
use Rattle.ostore_client_core.specs.Clients.{ClientView, entry_of}
use Rattle.ostore_client_core.proofs.BringLaws.{brings_none}
use Rattle.ostore_client_core.proofs.KeptLaws.{room_left}
use Rattle.ostore_client_core.proofs.RoomLaws.{used_below}
use Rattle.ostore_client_core.proofs.client.Client.bring.Goals as goal

pub bring_retained-requires-clause-room : goal.bring_retained-requires-clause-room
bring_retained-requires-clause-room g c =
    let cache = c.self.inside.cache in
    subst (λ (v : ClientView). length (used_pages v.pages) < v.most) c.self.view_is
    (room_left cache.pages cache.most c.if-is_full.ensures (subst (λ (v : ClientView). length v.pages ≤ v.most) (sym c.self.view_is) c.requires.runs.own.short))

pub bring_new-requires-clause-room : goal.bring_new-requires-clause-room
bring_new-requires-clause-room g c =
    let cache = c.self.inside.cache in
    subst (λ (v : ClientView). length (used_pages v.pages) < v.most) c.self.view_is
    (room_left cache.pages cache.most c.if-is_full.ensures (subst (λ (v : ClientView). length v.pages ≤ v.most) (sym c.self.view_is) c.requires.runs.own.short))

pub returns-then-is_in_use-clause-brings : goal.returns-then-is_in_use-clause-brings
returns-then-is_in_use-clause-brings g c = brings_none c.args.self.now c.args.page.0

pub returns-then-is_full-clause-refused : goal.returns-then-is_full-clause-refused
returns-then-is_full-clause-refused g c =
    let client = c.args.self.now in
    let told = g.S.PageClaims.tells c.args.service.now in
    let used : c.used.result ≡ length (used_pages client.pages) = search rules in
    let most : c.most.result ≡ client.most = search rules in
    let full : c.used.result ≡ c.most.result = search rules in
    let few : length (used_pages client.pages) < length told.opened = used_below client.pages c.pages_differ.ensures c.args.page.0 (length told.opened) (search rules) c.requires.known c.requires.runs.own.known in
    (refl, refl, used, most, full, omega arith)

-- ---- a page that is in use already

pub returns-then-is_in_use-clause-arrives : goal.returns-then-is_in_use-clause-arrives
returns-then-is_in_use-clause-arrives g c =
    let used : is_in_use (entry_of c.args.self.now c.args.page.0) ≡ true = search rules in
    record { there = λ _. refl; first = λ idle. absurd (false≢true (sym idle ∙ used)) }

pub returns-then-is_in_use-clause-full : goal.returns-then-is_in_use-clause-full
returns-then-is_in_use-clause-full g c =
    let used : is_in_use (entry_of c.args.self.now c.args.page.0) ≡ true = search rules in
    λ needs. absurd (false≢true (sym needs.unused ∙ used))

pub returns-then-is_in_use-clause-copies : goal.returns-then-is_in_use-clause-copies
returns-then-is_in_use-clause-copies g c = λ other stays. refl

pub returns-then-is_full-clause-copies : goal.returns-then-is_full-clause-copies
returns-then-is_full-clause-copies g c = λ other stays. refl
