use Rattle.std.proofs.Common.{sym, subst}
use Rattle.ostore_base.specs.declared.numbers.ClientNo.{ClientNo}
use Rattle.ostore_client_turns.specs.inside.AtServer.{MayExecuteAt}
use Rattle.ostore_client_turns.specs.inside.Seats.{view_of}
use Rattle.ostore_client_turns.proofs.line.run_line_at.Goals as goal

pub run_line_there-requires : goal.run_line_there-requires
run_line_there-requires g c =
    let seat = view_of c.args.seat.now in
    record {
      may = subst (λ (s : _). MayExecuteAt g.D.Disk.faults s c.as_client-service.result.seat.client.0 c.args.schema.now c.args.txn.now c.args.ordinal seat) (sym c.as_client-service.ensures.same)
          (subst (λ (n : ClientNo). MayExecuteAt g.D.Disk.faults c.args.server.now n.0 c.args.schema.now c.args.txn.now c.args.ordinal seat) (sym c.as_client-service.ensures.client) c.requires.may);
    }
