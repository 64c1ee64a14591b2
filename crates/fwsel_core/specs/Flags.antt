-- The flags that a boot leaves in the firmware space.
-- Source: vboot_reference, firmware/2lib/2misc.c (`vb2_check_dev_switch`) and firmware/2lib/include/2secdata_struct.h.
use Rattle.std.specs.Prelude.{ℕ, ◌+◌, ◌*◌, ◌/◌, Bool, ◌&&◌, not, if◌then◌else◌}
use Rattle.fwsel_core.specs.Mode.{has_flag, space_developer_mode, space_last_boot_developer}

-- The bits above the two lowest stay. Developer mode stays on unless nvdata asks to switch it off, and the lowest bit
-- says whether this boot is a developer's.
abbrev pub flags_after_boot : ℕ → Bool → Bool → ℕ
flags_after_boot flags developer disable_dev =
    4 * (flags / 4)
    + (if has_flag flags space_developer_mode && not disable_dev then space_developer_mode else 0)
    + (if developer then space_last_boot_developer else 0)
