use Rattle.std.proofs.Common.{inl, inr, sym, ◌∙◌}
use Rattle.make_core.proofs.making.wrong_size.Goals as goal

pub returns-then-flash-ne-FLASH_SIZE : goal.returns-then-flash-ne-FLASH_SIZE
returns-then-flash-ne-FLASH_SIZE g c = λ e. c.if-flash-ne-FLASH_SIZE.true (c.size-flash.ensures ∙ e)

pub returns-then-disk-ne-DRIVE_SECTORS : goal.returns-then-disk-ne-DRIVE_SECTORS
returns-then-disk-ne-DRIVE_SECTORS g c =
    (sym c.size-flash.ensures ∙ c.if-flash-ne-FLASH_SIZE.false, λ e. c.if-disk-ne-DRIVE_SECTORS.true (c.sectors-disk.ensures.sectors ∙ e))

pub returns-then-stick-eq0 : goal.returns-then-stick-eq0
returns-then-stick-eq0 g c = record {
  flash = sym c.size-flash.ensures ∙ c.if-flash-ne-FLASH_SIZE.false;
  disk = sym c.sectors-disk.ensures.sectors ∙ c.if-disk-ne-DRIVE_SECTORS.false;
  stick = inl (sym c.sectors-stick.ensures.sectors ∙ c.if-stick-eq0.true);
}

pub returns-then-stick-ne-DRIVE_SECTORS : goal.returns-then-stick-ne-DRIVE_SECTORS
returns-then-stick-ne-DRIVE_SECTORS g c = (
  sym c.size-flash.ensures ∙ c.if-flash-ne-FLASH_SIZE.false,
  sym c.sectors-disk.ensures.sectors ∙ c.if-disk-ne-DRIVE_SECTORS.false,
  λ e. c.if-stick-eq0.false (c.sectors-stick.ensures.sectors ∙ e),
  λ e. c.if-stick-ne-DRIVE_SECTORS.true (c.sectors-stick.ensures.sectors ∙ e),
)

pub returns : goal.returns
returns g c = record {
  flash = sym c.size-flash.ensures ∙ c.if-flash-ne-FLASH_SIZE.false;
  disk = sym c.sectors-disk.ensures.sectors ∙ c.if-disk-ne-DRIVE_SECTORS.false;
  stick = inr (sym c.sectors-stick.ensures.sectors ∙ c.if-stick-ne-DRIVE_SECTORS.false);
}
