use Rattle.std.proofs.Common.{sym, subst}
use Rattle.ostore_address_space.specs.Frames.{Frames}
use Rattle.ostore_client_core.specs.Clients.{AreFree}
use Rattle.ostore_client_core.proofs.KeptLaws.{kept_none}
use Rattle.ostore_client_core.proofs.BeginLaws.{free_frames_of}
use Rattle.ostore_client_core.proofs.client.Client.new.Goals as goal

pub invariant_of-result : goal.invariant_of-result
invariant_of-result g c = kept_none c.args.schema.now c.in_ok-pages.pages c.in_ok-used.used.items _ c.args.cache c.requires.lawful c.in_ok-pages.ensures c.in_ok-used.ensures.items c.in_ok-used.ensures.exact

pub returns-clause-unframed : goal.returns-clause-unframed
returns-clause-unframed g c = subst (λ (f : Frames). AreFree f.pages) (sym c.in_ok-space.ensures) (free_frames_of c.args.frames)
