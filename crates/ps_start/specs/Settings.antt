-- The ranges of a job's settings.
use Rattle.std.specs.Prelude.{◌≤◌}
use Rattle.ps_objects.specs.declared.settings.Settings.{Settings}

-- 1 to 2,400 dots per inch, on paper of 1 to 8,192 pixels a side
pub record AreInRange (s : Settings) : Type 0 where
  pub some_dots : 1 ≤ s.dpi
  pub dots : s.dpi ≤ 2400
  pub some_width : 1 ≤ s.width
  pub width : s.width ≤ 8192
  pub some_height : 1 ≤ s.height
  pub height : s.height ≤ 8192
