-- An attempt that begins: no page is in use.
use Rattle.std.proofs.Common.{◌≡◌, ◌≤◌, ℕ, zero, suc, false, nat_eq, List, [], length, get_or, replicate, Option, Some, None, refl, sym, ap, subst, ◌∙◌, arith}
use Rattle.std.specs.Map.{lookup}
use Rattle.std.proofs.lemmas.Bool.{false≢true}
use Rattle.ostore_base.specs.declared.numbers.PageNo.{PageNo}
use Rattle.ostore_base.specs.declared.page.PageImage.{PageImage}
use Rattle.ostore_schema_layout.specs.declared.schema.Schema.{Schema}
use Rattle.ostore_address_space.specs.Frames.{ArePaired}
use Rattle.ostore_page_service.specs.Told.{Side, Told, SameService, SamePages}
use Rattle.ostore_graph_model.specs.declared.commands.Script.{Script}
use Rattle.ostore_graph_model.specs.declared.history.Entry.{Entry}
use Rattle.ostore_graph_model.specs.Valid.{IsValid}
use Rattle.ostore_client_cache.specs.declared.entries.CachedPage.{CachedPage}
use Rattle.ostore_client_cache.specs.declared.entries.Hold.{Hold}
use Rattle.ostore_client_cache.specs.declared.entries.Hold.TheVariants.{Retained, InUse, Owned}
use Rattle.ostore_client_cache.specs.Entries.{is_used, is_in_use}
use Rattle.ostore_client_core.specs.Clients.{ClientView, entry_of, stored_image, AreFree, IsAbsent, IsTied, IsTiedBy, IsIdle, IsOwn, AreUsedFirst}
use Rattle.ostore_client_core.specs.Attempts.{Attempts}
use Rattle.ostore_client_core.proofs.EntryLaws.{Pages, none_some}
use Rattle.ostore_client_core.proofs.GoesLaws.{own_still}

unheld_by : (hold : Hold) (stored : PageImage) (side : Side Entry) (page : ℕ) → is_used hold ≡ false → IsTiedBy hold stored side page → side.held page ≡ None
unheld_by Retained stored side page idle tie = tie.held
unheld_by InUse stored side page idle tie = absurd (false≢true (sym idle))
unheld_by Owned stored side page idle tie = absurd (false≢true (sym idle))

-- a page that isn't in use isn't held
pub unheld : (stored : PageImage → PageImage) (side : Side Entry) (page : ℕ) (found : Option CachedPage) → is_in_use found ≡ false → IsTied stored side page found → side.held page ≡ None
unheld stored side page None idle tied = tied.held
unheld stored side page (Some entry) idle tied = unheld_by entry.hold (stored entry.image) side page idle tied

pub begins : (serves later : Script → Type 0) (told now : Told Entry) (client : ClientView) → IsOwn serves told client → IsIdle client → ((s : Script) → serves s → later s) → SameService told now → SamePages told.mine now.mine
    → ((s : Script) → serves s → IsValid s.schema told.opened) → length told.opened ≤ 16384 → Attempts later now client
begins serves later told now client own idle served service pages valid few = record {
  own = own_still serves later told now client own served service pages;
  few = subst (λ (l : List PageImage). length l ≤ 16384) (sym service.opened) few;
  some = (
    told.opened,
    record {
      long = ap (λ (l : List PageImage). length l) (sym service.opened);
      valid = subst (λ (s : Schema). IsValid s told.opened) own.script.2 (valid own.script.0 own.script.1);
      agrees = λ page image held. absurd (none_some (sym (pages.held page ∙ unheld (stored_image client page) told.mine page (entry_of client page) (idle page) (own.tied page)) ∙ held));
    },
  );
}

-- a client without a page, of which the service holds nothing
pub fresh_own : (serves : Script → Type 0) (told : Told Entry) (client : ClientView) → told.client ≡ client.frames.client.0 → (script : Script) × serves script × (script.schema ≡ client.schema) → client.pages ≡ [] → AreFree client.frames.pages → ((page : ℕ) → IsAbsent told.mine page)
    → ArePaired client.frames.pages → IsOwn serves told client
fresh_own serves told client number script without free nothing paired =
    let none : (page : ℕ) → entry_of client page ≡ None = λ page. ap (λ (l : Pages). lookup (nat_eq page) l) without in
    let long : length client.pages ≡ 0 = ap (λ (l : Pages). length l) without in
    record {
      number = number;
      script = script;
      tied = λ page. subst (IsTied (stored_image client page) told.mine page) (sym (none page)) (nothing page);
      resident = λ page entry is. absurd (none_some (sym (none page) ∙ is));
      known = λ page entry is. absurd (none_some (sym (none page) ∙ is));
      frames = paired;
      framed = λ frame page is. absurd (none_some (sym (free frame) ∙ is));
      short = omega arith;
      first = subst AreUsedFirst (sym without) tt;
    }

-- frames that hold no page
pub free_frames_of : (count : ℕ) → AreFree (replicate count None)
free_frames_of count zero = refl
free_frames_of count (suc i) = none_at count i
  where
    none_at : (n k : ℕ) → get_or {A = Option PageNo} (replicate n None) k None ≡ None
    none_at zero k = refl
    none_at (suc n) zero = refl
    none_at (suc n) (suc k) = none_at n k
