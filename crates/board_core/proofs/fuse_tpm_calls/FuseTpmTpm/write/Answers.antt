-- The chosen write of a TPM: the TPM below made it once, whatever it answered.
use Rattle.std.proofs.Common.{◌≡◌, ap, sym, ◌∙◌, arith}
use Rattle.std.specs.Prelude.{is_err}
use Rattle.board_core.specs.declared.counters.Counters.{Counters}
use Rattle.board_core.proofs.fuse_tpm_calls.FuseTpmTpm.write.Goals as goal

pub returns-else-keep-eq0-clause-fused : goal.returns-else-keep-eq0-clause-fused
returns-else-keep-eq0-clause-fused g c =
    let failed = ap is_err c.count_change-in-Stop.ensures.same in
    let turn = sym c.begin_change.ensures.turn ∙ c.in-Stop.is in
    record {
      stop = c.count_change-in-Stop.ensures.counted.stop ∙ ap (λ (counters : Counters). counters.stop) c.begin_change.ensures.after;
      refused = λ refuse. absurd (cc);
      passed = λ pass. absurd (cc);
      nothing = λ none. let same : c.in-Stop.keep ≡ 0 = cc in absurd (omega arith);
      chosen = λ keep some stop. (failed, record { answer = c.write.result; written = c.write.ensures.meets });
    }
