use Rattle.std.proofs.Common.{◌≡◌, ◌∙◌, ap, sym, subst, arith, to_z, of_z}
use Rattle.std.specs.Int.{w64}
use Rattle.std.proofs.lemmas.Int.{ints, to_z-of_z}
use Rattle.std.proofs.lemmas.Option.{same_Some}
use Rattle.ostore_page_tags.specs.Numbers.{int_at}
use Rattle.ostore_graph_model.specs.Addresses.{PlacedCell}
use Rattle.ostore_page_tags.specs.PageLists.{bytes_at}
use Rattle.ostore_segments.specs.Seen.{IsSeenAs}
use Rattle.ostore_object_ops.proofs.IntFacts.{in_page, there, read}
use Rattle.ostore_object_ops.proofs.members.read_int.Goals as goal

pub overflow_add-found : goal.overflow_add-found
overflow_add-found g c =
    let stands = c.requires.stands in
    let high = in_page c.args.schema.now c.args.found stands.some.1 (stands.each stands.some.0 stands.some.1 stands.some.2) in
    omega arith

pub get_i64-requires : goal.get_i64-requires
get_i64-requires g c =
    let stands = c.requires.stands in
    let high = in_page c.args.schema.now c.args.found stands.some.1 (stands.each stands.some.0 stands.some.1 stands.some.2) in
    omega arith

pub returns : goal.returns
returns g c = λ begun list may cell at.
    let has = c.requires.stands.each begun list may in
    let same : to_z w64 (of_z w64 c.get_i64.result) ≡ c.get_i64.result = to_z-of_z w64 c.get_i64.result (omega (arith, ints)) in
    same ∙ c.get_i64.ensures
    ∙ read c.args.schema.now c.args.found list has (g.P.Pages.held c.args.pages.now).home c.image.result.now.bytes
    (subst (λ p. IsSeenAs p (g.P.Pages.held c.args.pages.now).home c.args.found.page.0 c.image.result.now.bytes (bytes_at list c.args.found.page.0)) c.requires.suits.pointers (c.image.ensures begun list may (there c.args.schema.now c.args.found list has)))
    ∙ ap (λ (p : PlacedCell). int_at c.args.found.place.offset p.bytes) (same_Some has.cell cell (sym has.has.there ∙ at))
