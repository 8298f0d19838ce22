use Rattle.std.proofs.Common.{◌≡◌, ℕ, List, Some, None, refl, ap, sym, subst, ◌∙◌, rules}
use Rattle.ostore_base.specs.declared.page.PageImage.{PageImage}
use Rattle.ostore_client_core.specs.Kinds.{graph_meaning}
use Rattle.ostore_run_report.specs.declared.results.Tail.{Tail}
use Rattle.ostore_turns.specs.Bounds.{AreBounded}
use Rattle.ostore_page_service.specs.Holding.{IsEmpty}
use Rattle.ostore_page_service.specs.History.{IsServed}
use Rattle.ostore_page_service.specs.Servers.{first_of, journal_of, opened_of, side_of, told_of, Serves}
use Rattle.ostore_client_turns.specs.declared.run.Run.{Run}
use Rattle.ostore_client_turns.specs.Runs.{IsRunOf, IsTailOf, bounds_of, script_of}
use Rattle.ostore_client_turns.specs.inside.AtServer.{AreAllFreshAt, moment_at}
use Rattle.ostore_client_turns.specs.inside.Seats.{seats_in}
use Rattle.ostore_client_turns.proofs.EndLaws.{run_of}
use Rattle.ostore_client_turns.proofs.StartLaws.{is_first, moment_first, ready_first}
use Rattle.ostore_client_turns.proofs.run.run_turns.Goals as goal

pub take_all_turns-requires-clause-first : goal.take_all_turns-requires-clause-first
take_all_turns-requires-clause-first g c =
    let same = sym c.seats_of.ensures.same in
    is_first g.D.Disk.faults c.seats_of.new.server c.args.schema.now c.args.job.now (seats_in c.in_ok-seats.seats.items)
    (subst (λ (s : _). AreAllFreshAt g.D.Disk.faults s c.args.schema.now c.args.job.now.clients (seats_in c.in_ok-seats.seats.items)) same c.in_ok-seats.ensures.seats)
    (subst (λ (s : _). (client : ℕ) → IsEmpty (side_of s client)) same c.requires.fresh) c.args.server.ghost_name

pub take_all_turns-requires-clause-ready : goal.take_all_turns-requires-clause-ready
take_all_turns-requires-clause-ready g c =
    let same = sym c.seats_of.ensures.same in
    ready_first g.D.Disk.faults c.seats_of.new.server c.args.schema.now c.args.job.now (seats_in c.in_ok-seats.seats.items)
    (subst (λ (s : _). AreAllFreshAt g.D.Disk.faults s c.args.schema.now c.args.job.now.clients (seats_in c.in_ok-seats.seats.items)) same c.in_ok-seats.ensures.seats)
    (subst (λ (s : _). (client : ℕ) → IsEmpty (side_of s client)) same c.requires.fresh)
    (record { few = c.requires.job.few; lawful = c.requires.lawful; ints = c.requires.ints; built = c.requires.built })
    (subst (λ (s : _). Serves s (script_of c.args.schema.now c.args.job.now)) same c.requires.served)

pub returns : goal.returns
returns g c =
    let same = c.seats_of.ensures.same in
    let fresh = subst (λ (s : _). AreAllFreshAt g.D.Disk.faults s c.args.schema.now c.args.job.now.clients (seats_in c.in_ok-seats.seats.items)) (sym same) c.in_ok-seats.ensures.seats in
    let empty = subst (λ (s : _). (client : ℕ) → IsEmpty (side_of s client)) (sym same) c.requires.fresh in
    let script = script_of c.args.schema.now c.args.job.now in
    let name = c.args.server.ghost_name in
    let began = c.seats_of.new.server in
    let new = c.take_all_turns.new.self in
    let server = new.server.now in
    let first = first_of c.args.server.now in
    let opened = opened_of c.args.server.now in
    let told = λ (n : ℕ). told_of name g.D.Disk.faults n server in
    let after = moment_at g.D.Disk.faults server name (seats_in new.seats.now.items) in
    let firsts = c.in_ok-ran.ensures.first ∙ ap first_of same in
    let openeds = c.in_ok-ran.ensures.opened ∙ ap opened_of same in
    let served : IsServed graph_meaning script (first_of server) (opened_of server) (λ n. (told n).mine.records) after.commits server.last = (c.in_ok-ran.ensures.ready name).served in
    let served_first : IsServed graph_meaning script first opened (λ n. (told n).mine.records) after.commits server.last =
    subst (λ (n : ℕ). IsServed graph_meaning script n opened (λ n. (told n).mine.records) after.commits server.last) firsts
    (subst (λ (pages : List PageImage). IsServed graph_meaning script (first_of server) pages (λ n. (told n).mine.records) after.commits server.last) openeds served) in
    let tail : Tail = record { disk_fault_after = None; commits = c.number.result; fetches = Some c.fetches_of.result } in
    let reached : c.number.result ≡ (journal_of server).number = search rules in
    let tail_is : IsTailOf after.commits tail = record {
      fetches = c.fetches_of.result;
      tail_is = ap (λ (n : ℕ). (let t : Tail = record { disk_fault_after = None; commits = n; fetches = Some c.fetches_of.result } in t)) reached;
    } in
    let run =
    run_of c.history_is_legal.ensures c.results_are_records.ensures c.args.schema.now c.args.job.now first opened server.last (moment_at g.D.Disk.faults began name (seats_in c.in_ok-seats.seats.items)) after c.in_ok-ran.ran told
    c.requires.job.few (moment_first g.D.Disk.faults began c.args.schema.now c.args.job.now (seats_in c.in_ok-seats.seats.items) fresh empty name first (ap (λ (s : _). (journal_of s).number) same ∙ c.requires.number))
    c.in_ok-ran.ensures.run c.in_ok-ran.ensures.sound
    (subst (λ (pages : List PageImage). AreBounded (bounds_of script pages) c.args.job.now.clients c.in_ok-ran.ran.results) (ap opened_of same) c.in_ok-ran.ensures.bounded)
    (λ client. refl) served_first tail tail_is in
    let last : server.last ≡ c.server-1.given.0.last = search rules in
    let ran : Run = record { results = c.in_ok-ran.ran.results; tail = tail } in
    subst (λ (pages : List PageImage). IsRunOf c.args.schema.now c.args.job.now first opened pages ran) last run
