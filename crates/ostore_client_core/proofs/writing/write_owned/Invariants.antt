use Rattle.std.proofs.Common.{◌≡◌, take}
use Rattle.ostore_client_core.specs.inside.Writing.{all_writes}
use Rattle.ostore_client_core.proofs.writing.write_owned.Given as goal

-- so far the owned ones of the pages before this one were written
abbrev pub invariant-loop-page : goal.invariant-loop-page
invariant-loop-page l =
    (l.rec ≡ record l.fn.rec { pages = l.rec.pages }) × (l.rec.pages ≡ all_writes l.space.pages l.schema l.cache.pages (take l.page-index l.pages))
