use Rattle.ostore_page_service.specs.Told.{StillServes}
use Rattle.std.specs.List.{Contains}
use Rattle.ostore_client_cache.specs.Releases.{numbers_of}
use Rattle.ostore_client_core.specs.Retaining.{KeepsCopies}
use Rattle.ostore_client_core.proofs.ReleaseLaws.{Released}
use Rattle.ostore_client_core.proofs.RetainLaws.{AreReleased}
use Rattle.ostore_client_core.proofs.release.release_all.Given as goal

abbrev pub invariant-loop-page : goal.invariant-loop-page
invariant-loop-page g l =
    Released l.ending l.initial.cache l.cache (g.S.PageClaims.tells l.initial.service) (g.S.PageClaims.tells l.service) l.page-index (numbers_of l.pages)
    × StillServes (g.S.PageClaims.serves l.initial.service) (g.S.PageClaims.serves l.service)
    × AreReleased g.S.PageClaims.releases l.ending l.initial.cache.pages (g.S.PageClaims.tells l.service).mine l.page-index (numbers_of l.pages)
    × KeepsCopies (λ page. Contains (numbers_of l.pages) page → ⊥) (g.S.PageClaims.tells l.initial.service).mine (g.S.PageClaims.tells l.service).mine
