use Rattle.std.proofs.Common.{◌*◌, refl, sym, length, arith}
use Rattle.board_core.specs.Flash.{range, erased_page}
use Rattle.board_core.proofs.Stops.{plain_changed}
use Rattle.board_core.proofs.TornRange.{left_torn_alone, length-erased_page}
use Rattle.board_mem.specs.Fails.{left_by}
use Rattle.board_mem.proofs.Leaves.{length-left}
use Rattle.board_mem.proofs.mem_flash_calls.MemFlashFlash.erase.Goals as goal

pub returns-in-Some-clause-meets : goal.returns-in-Some-clause-meets
returns-in-Some-clause-meets c =
    let bytes = c.args.self.now.bytes.items in
    let left = left_by c.in-Some.remains (range bytes (c.args.page * 4096) (length erased_page)) erased_page in
    record {
      counters = plain_changed _ _ _ _ c.raise-self.ensures.no_less c.raise-self.ensures.raised c.raise-self-in-Some.ensures.no_less c.raise-self-in-Some.ensures.raised;
      size = c.tear.ensures.same_length;
      told = refl;
      ok = λ told. tt;
      err = λ told. left_torn_alone (c.args.page * 4096) erased_page left _ _ _ _ refl refl
          (length-left c.in-Some.remains bytes erased_page (c.args.page * 4096) (omega (arith, c.requires, length-erased_page))) (rw (sym c.make_erased_page-blank.ensures) c.tear.ensures.content) (rw (sym c.make_erased_page-blank.ensures) c.tear.ensures.torn);
    }
