use Rattle.std.proofs.Common.{sym, ◌∙◌}
use Rattle.ostore_client_cache.proofs.CacheLaws.{retains, retains_still}
use Rattle.ostore_client_cache.proofs.cache.Cache.retain.Goals as goal

pub overflow_sub-self : goal.overflow_sub-self
overflow_sub-self c = (retains c.self.inside.entries c.retain_entry.new.cache c.self.inside.used c.self.inside.most c.args.page.0 c.self.invariant c.retain_entry.ensures.capacity c.retain_entry.ensures.entries (sym c.retain_entry.ensures.used ∙ c.if-retain_entry.true)).some

pub invariant_of-self : goal.invariant_of-self
invariant_of-self c = (retains c.self.inside.entries c.retain_entry.new.cache c.self.inside.used c.self.inside.most c.args.page.0 c.self.invariant c.retain_entry.ensures.capacity c.retain_entry.ensures.entries (sym c.retain_entry.ensures.used ∙ c.if-retain_entry.true)).kept

pub invariant_of-self-else-retain_entry : goal.invariant_of-self-else-retain_entry
invariant_of-self-else-retain_entry c = retains_still c.self.inside.entries c.retain_entry.new.cache c.self.inside.used c.self.inside.most c.args.page.0 c.self.invariant c.retain_entry.ensures.capacity c.retain_entry.ensures.entries (sym c.retain_entry.ensures.used ∙ c.if-retain_entry.false)
