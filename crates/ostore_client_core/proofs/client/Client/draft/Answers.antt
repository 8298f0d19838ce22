use Rattle.std.proofs.Common.{◌≡◌, ◌<◌, nat_eq, List, length, sym, ap, subst, ◌∙◌, arith}
use Rattle.std.specs.List.{AllPairs}
use Rattle.std.specs.Map.{lookup}
use Rattle.ostore_base.specs.declared.numbers.PageNo.{PageNo}
use Rattle.ostore_redo_journal.specs.Drafts.{Writes}
use Rattle.ostore_page_service.specs.History.{written}
use Rattle.ostore_client_cache.specs.Releases.{numbers_of}
use Rattle.ostore_client_cache.proofs.CountLaws.{used_few}
use Rattle.ostore_client_core.specs.Clients.{ClientView, client_view, entry_of}
use Rattle.ostore_client_core.specs.Commits.{written_by}
use Rattle.ostore_client_core.proofs.FinishLaws.{same_written}
use Rattle.ostore_client_core.proofs.SortLaws.{ascends, in_order, kept_sorted}
use Rattle.ostore_client_core.proofs.WriteLaws.{writes_all}
use Rattle.ostore_client_core.proofs.client.Client.draft.Goals as goal

pub overflow_cast-count : goal.overflow_cast-count
overflow_cast-count g c =
    let inside = c.self.inside in
    let pages : length inside.cache.pages ≡ length c.args.self.now.pages = ap (λ (v : ClientView). length v.pages) c.self.view_is in
    let most : inside.cache.most ≡ c.args.self.now.most = ap (λ (v : ClientView). v.most) c.self.view_is in
    omega (arith, used_few inside.cache.pages, c.used-count.ensures, c.most-most.ensures.most, c.most-most.ensures.few, c.requires.short)

pub invariant_of-self : goal.invariant_of-self
invariant_of-self g c =
    let inside = c.self.inside in
    kept_sorted inside.schema.now inside.cache.pages inside.used.items c.sort_unstable.new.self.items _ _ inside.cache.most c.sort_unstable.ensures.permutation c.sort_unstable.ensures.capacity c.self.invariant

pub invariant_of-self-2 : goal.invariant_of-self-2
invariant_of-self-2 g c =
    let inside = c.self.inside in
    kept_sorted inside.schema.now inside.cache.pages inside.used.items c.sort_unstable.new.self.items _ _ inside.cache.most c.sort_unstable.ensures.permutation c.sort_unstable.ensures.capacity c.self.invariant

pub write_owned-requires-clause-ascending : goal.write_owned-requires-clause-ascending
write_owned-requires-clause-ascending g c =
    subst (λ (l : List PageNo). AllPairs (λ page later. page < later) (numbers_of l)) (sym c.deref.ensures.value)
    (ascends c.self.inside.used.items c.sort_unstable.new.self.items c.sort_unstable.ensures.permutation c.sort_unstable.ensures.sorted c.self.invariant.listed.differ)

pub returns-clause-writes : goal.returns-clause-writes
returns-clause-writes g c = λ page.
    let inside = c.self.inside in
    let listed = in_order inside.cache.pages inside.used.items c.sort_unstable.new.self.items c.deref.result.now c.sort_unstable.ensures.permutation c.self.invariant.listed c.deref.ensures.value in
    ap (λ (w : Writes). written w page) c.write_owned.ensures.pages
    ∙ writes_all inside.space.pages inside.schema.now inside.cache.pages c.deref.result.now listed page
    ∙ same_written (client_view inside.schema.now inside.space inside.cache.pages inside.cache.most inside.fetches) page (lookup (nat_eq page) inside.cache.pages)
    ∙ ap (λ (v : ClientView). written_by v page (entry_of v page)) c.self.view_is
