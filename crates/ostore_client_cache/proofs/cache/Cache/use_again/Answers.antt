use Rattle.std.proofs.Common.{sym, ◌∙◌, arith}
use Rattle.ostore_client_cache.proofs.CacheLaws.{uses, uses_still}
use Rattle.ostore_client_cache.proofs.cache.Cache.use_again.Goals as goal

pub overflow_add-self : goal.overflow_add-self
overflow_add-self c =
    let fits = (uses c.self.inside.entries c.use_entry.new.cache c.self.inside.used c.self.inside.most c.args.page.0 c.self.invariant c.use_entry.ensures.capacity c.use_entry.ensures.entries (sym c.use_entry.ensures.retained ∙ c.if-use_entry.true)).fits in
    omega arith

pub invariant_of-self : goal.invariant_of-self
invariant_of-self c = (uses c.self.inside.entries c.use_entry.new.cache c.self.inside.used c.self.inside.most c.args.page.0 c.self.invariant c.use_entry.ensures.capacity c.use_entry.ensures.entries (sym c.use_entry.ensures.retained ∙ c.if-use_entry.true)).kept

pub invariant_of-self-else-use_entry : goal.invariant_of-self-else-use_entry
invariant_of-self-else-use_entry c = uses_still c.self.inside.entries c.use_entry.new.cache c.self.inside.used c.self.inside.most c.args.page.0 c.self.invariant c.use_entry.ensures.capacity c.use_entry.ensures.entries (sym c.use_entry.ensures.retained ∙ c.if-use_entry.false)
