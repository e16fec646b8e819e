-- A read more: its bytes stand behind those that were there.
use Rattle.std.proofs.Common.{arith, subst, sym}
use Rattle.std.proofs.lemmas.Grind.{common_steps}
use Rattle.std.proofs.KnownBytes.{Consumes-trans}
use Rattle.std.specs.Io.KnownBytes.{Consumes}
use Rattle.input.proofs.Filled.{take_filled}
use Rattle.input.proofs.read_full.Goals as goal

pub loop-turn-preserved : goal.loop-turn-preserved
loop-turn-preserved g c =
    let before = c.loop-turn in
    let read = c.in_ok-got.ensures in (
      grind (arith, common_steps),
      omega arith,
      subst (Consumes (g.R.Read.remaining c.args.input.now) (g.R.Read.remaining c.read.new.self))
          (sym (take_filled before.n c.in_ok-got.got before.buffer c.read.new.buf _ before.invariant.0 read.bound.0))
          (Consumes-trans _ _ _ _ _ before.invariant.2 read.bytes.0),
    )
