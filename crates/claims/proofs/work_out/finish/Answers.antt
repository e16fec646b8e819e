-- `claims::work_out::finish` meets its contract: with the worked-out claims exchanged the file is the finished one, which is judged, and
-- after a refusal they are exchanged back. Assumes nothing.
use Rattle.std.proofs.Common.{◌≡◌, length, refl, arith, rules}
use Rattle.std.specs.Prelude.{Ok, Err}
use Rattle.model.specs.Promises.{AreBytes}
use Rattle.reader.proofs.Passes.{load_holds}
use Rattle.claims.proofs.Finishing.{targets_fit, lent_long, again_long, exchanged_finished, exchanged_restored, worked_claims, finished_accepted, finished_refused}
use Rattle.claims.proofs.work_out.finish.Goals as goal

pub overflow_sub-start : goal.overflow_sub-start
overflow_sub-start c = targets_fit (load_holds _ _ _ _ _ _ c.requires.0)

pub exchange-requires : goal.exchange-requires
exchange-requires c =
    let load = load_holds _ _ _ _ _ _ c.requires.0 in
    (load.read.loaded.k_most, lent_long load)

pub exchange-requires-in-Err : goal.exchange-requires-in-Err
exchange-requires-in-Err c =
    let load = load_holds _ _ _ _ _ _ c.requires.0 in
    let long : length c.exchange.new.rows ≡ length c.args.rows.now = c.exchange.auto.rows in
    (omega (arith, load.read.loaded.k_most), omega (arith, again_long load c.exchange.ensures))

pub returns-in-Err : goal.returns-in-Err
returns-in-Err c =
    let load = load_holds _ _ _ _ _ _ c.requires.0 in
    let bytes : AreBytes c.args.file.now = search rules in
    let now_finished = exchanged_finished load c.exchange.ensures bytes (worked_claims load _ refl c.requires.1) in
    let now_restored = exchanged_restored load c.exchange.ensures bytes c.exchange.auto.rows c.exchange-in-Err.ensures in
    finished_refused load (Err c.in-Err.refusal) now_finished c.in-Err.ensures _ refl now_restored

pub returns-in-Ok : goal.returns-in-Ok
returns-in-Ok c =
    let load = load_holds _ _ _ _ _ _ c.requires.0 in
    let bytes : AreBytes c.args.file.now = search rules in
    let now_finished = exchanged_finished load c.exchange.ensures bytes (worked_claims load _ refl c.requires.1) in
    finished_accepted load (Ok c.in-Ok.held) now_finished c.in-Ok.ensures _ refl
