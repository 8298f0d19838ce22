-- How far a transaction has come.
use Rattle.std.specs.Prelude.{ℕ, List, Option}
use Rattle.ostore_segments.specs.Holdings.{PagesHeld}
use Rattle.ostore_graph_model.specs.declared.values.Reply.{Reply}
use Rattle.ostore_object_ops.specs.declared.progress.Progress.{Progress}
use Rattle.ostore_object_ops.specs.Means.{Leads}
use Rattle.ostore_object_ops.specs.Bound.{bound_by, leads_of}

-- the replies so far
abbrev pub replies_of : Progress → List Reply
replies_of progress = progress.replies.items

-- the resident pointer of each of its variables that is bound
abbrev pub bound_in : Progress → List ℕ → Option ℕ
bound_in progress variable = bound_by progress.vars variable

-- where its variables lead to
abbrev pub leads_by : PagesHeld → Progress → Leads
leads_by holding progress = leads_of holding progress.vars
