use Rattle.std.proofs.Common.{length, sym, ap, subst, ◌∙◌, arith}
use Rattle.ostore_page_tags.specs.PageLists.{schema_text}
use Rattle.ostore_page_tags.specs.Allocated.{IsAllocated}
use Rattle.ostore_page_tags.proofs.allocation.FreshPages.{stored_schema-long, long_nine, long_ten, fresh_made, fresh-text, fresh-allocated}
use Rattle.ostore_page_tags.proofs.fresh.fresh_pages.Goals as goal

pub push_parts-requires-clause-whole : goal.push_parts-requires-clause-whole
push_parts-requires-clause-whole c = ap length (c.deref.ensures.value ∙ c.in_ok-stored.ensures) ∙ stored_schema-long c.args.schema.now c.requires.short

pub push-requires-2 : goal.push-requires-2
push-requires-2 c =
    let nine = long_nine c.new-list.result c.push.new.self c.push_parts.new.list c.plain_page.result c.deref.result.now c.new-list.ensures c.in_ok-push.ensures.ok c.in_ok-push_parts.ensures in
    omega arith

pub push_free-requires-clause-room : goal.push_free-requires-clause-room
push_free-requires-clause-room c =
    let nine = long_nine c.new-list.result c.push.new.self c.push_parts.new.list c.plain_page.result c.deref.result.now c.new-list.ensures c.in_ok-push.ensures.ok c.in_ok-push_parts.ensures in
    let ten = long_ten c.push_parts.new.list c.push-2.new.self c.plain_page-2.result nine c.in_ok-push-2.ensures.ok in
    let most = c.requires.most in
    omega arith

pub returns-clause-fresh : goal.returns-clause-fresh
returns-clause-fresh c =
    fresh_made c.args.schema.now c.deref.result.now c.in_ok-stored.stored.items c.args.pages c.new-list.result c.push.new.self c.push_parts.new.list c.push-2.new.self c.push_free.new.list c.plain_page.result c.plain_page-2.result
    c.new-list.ensures c.plain_page.ensures c.in_ok-push.ensures.ok c.deref.ensures.value c.in_ok-stored.ensures c.in_ok-push_parts.ensures c.plain_page-2.ensures c.in_ok-push-2.ensures.ok c.in_ok-push_free.ensures

pub returns-clause-schema : goal.returns-clause-schema
returns-clause-schema c = ap schema_text (returns-clause-fresh c) ∙ fresh-text c.args.schema.now c.args.pages c.requires.short

pub returns-clause-allocated : goal.returns-clause-allocated
returns-clause-allocated c = subst IsAllocated (sym (returns-clause-fresh c)) (fresh-allocated c.args.schema.now c.args.pages c.requires.short c.requires.least c.requires.most)
