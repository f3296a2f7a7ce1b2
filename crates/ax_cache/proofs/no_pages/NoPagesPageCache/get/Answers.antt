use Rattle.std.proofs.Common.{refl, sym}
use Rattle.std.specs.FinMap as map
use Rattle.ax_cache.specs.Pages.{key_cmp}
use Rattle.ax_cache.proofs.no_pages.NoPagesPageCache.get.Goals as goal

pub returns : goal.returns
returns c = ((refl, (λ _. tt), (refl, refl)), record { kept = tt; payload = sym (map.get-empty key_cmp c.args._key) })
