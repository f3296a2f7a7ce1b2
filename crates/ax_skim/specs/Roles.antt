-- What a byte of a canonical text does (JSON, RFC 8259).
use Rattle.std.specs.Prelude.{ℕ, cond, ◌==◌, ◌||◌}
use Rattle.ax_skim.specs.declared.role.ByteRole.{ByteRole}
use Rattle.ax_skim.specs.declared.role.ByteRole.TheVariants.{Quote, Backslash, Opening, Closing, Comma, Other}

unfoldable pub role_of : ℕ → ByteRole
role_of byte =
    cond (byte == 34) Quote
    (cond (byte == 92) Backslash
    (cond ((byte == 123) || (byte == 91)) Opening
    (cond ((byte == 125) || (byte == 93)) Closing
    (cond (byte == 44) Comma Other))))
