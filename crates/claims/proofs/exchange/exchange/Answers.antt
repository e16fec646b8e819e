-- `claims::exchange::exchange` meets its contract. The loop's invariant: the claims so far are exchanged, and the rest of the table is
-- as it came. Assumes nothing.
use Rattle.std.proofs.Common.{◌≡◌, refl, sym, ◌∙◌, arith}
use Rattle.std.proofs.lemmas.List.{set-get_or}
use Rattle.claims.specs.Exchanges.{claim_at}
use Rattle.claims.proofs.Exchanging.{claim_in_room, exchange_begins, exchange_ends, exchange_passes, exchange_turns}
use Rattle.claims.proofs.exchange.exchange.Goals.{then-not-is_indirect, else-not-is_indirect}
use Rattle.claims.proofs.exchange.exchange.Goals as goal

pub loop-j-init : goal.loop-j-init
loop-j-init c = exchange_begins

pub loop-j-preserved : goal.loop-j-preserved
loop-j-preserved c =
    elim c.if-not-is_indirect.branch [
      | then-not-is_indirect w ↦
          let claim : w.unwrap_or-claim.result ≡ claim_at c.loop-j.rows c.loop-j.j = w.unwrap_or-claim.ensures ∙ rw w.unknown.ensures in
          rw (w.targets-is, w.rows-is)
          (exchange_turns c.loop-j.invariant c.loop-j-test.true (sym c.is_indirect.ensures ∙ w.if-not-is_indirect.true) (omega arith) _ refl w.claim_in-came.ensures
          (claim_in_room c.loop-j.j _ c.loop-j.targets w.target_start.ensures.0 (omega (arith, c.loop-j.auto.targets, c.requires))
          (rw claim at w.write_claim.ensures)))
      | else-not-is_indirect w ↦
          rw (w.targets-is, w.rows-is, set-get_or) (exchange_passes c.loop-j.invariant c.loop-j-test.true (sym c.is_indirect.ensures ∙ w.if-not-is_indirect.false))
    ]

pub returns : goal.returns
returns c = exchange_ends c.loop-j.invariant c.loop-j-test.false
