-- Each of the two flags is set as it is to be, which was tried for each byte and each choice.
use Rattle.std.proofs.Common.{◌≡◌, ◌&&◌, not, rules}
use Rattle.fwsel_core.specs.Mode.{has_flag}
use Rattle.fwsel_core.proofs.FlagBits.{made_in_steps}
use Rattle.fwsel_core.proofs.flags.boot_flags.Goals as goal

pub returns : goal.returns
returns c =
    let on : c.if-flags-ne0.stays_on ≡ (has_flag c.args.flags 0x02 && not c.args.disable_dev) = search rules in
    let right = made_in_steps c.args.flags c.ranges.flags.fits c.args.developer c.args.disable_dev c.if-flags-ne0.stays_on c.with_flag-switched.result c.with_flag.result on c.with_flag-switched.ensures c.with_flag.ensures in
    record { flags = right.exact; mode = right.mode; last_boot = right.last_boot; others = right.others }
